-- Bytes with the lowest first hold the number that they were made of (`read_back`), so the host can read the total from its 8 bytes
-- (`total_read_back`), and the counts and the next position from their 24 (`counts_read_back`), whatever slices were lent.
use Rattle.std.proofs.Common.{sym, ap, ◌∙◌, arith, take_at, drop_at, take_all, drop-drop, ℕ, zero, suc, ◌*◌, ◌/◌, ◌≤◌, ◌<◌, ◌≡◌, refl, List, ◌++◌, length, take, drop}
use Rattle.definitions.specs.Limits.{bid_limit, pool_limit}
use Rattle.definitions.specs.Answers.{none}
use Rattle.definitions.specs.Calls.{counts_refusal}
use Rattle.definitions.specs.Outcome.{order_limit}
use Rattle.definitions.specs.Plan.{Plan, lowest_first, Written, written_counts, count_bytes, total_refusal, total_slice, bytes_refusal, counts_slice, longest_order, number_size}
use Rattle.laws.specs.Sizes.{counted}
use Rattle.columns.specs.declared.Numbering.{Numbering}
use Rattle.columns.specs.Plans.{plan_by, plan_by_length}
use Rattle.plan.specs.Plan.{plan}
use Rattle.plan.proofs.PlanOrders.{length_limit}
use Rattle.orders.specs.Calls.{write_within}
use Rattle.walk.proofs.Sequence.{orders_within, bytes_within, plan_by_orders}
use Rattle.host.specs.Calls.{total_counts, total_given, bytes_writing, counts_given}
use Rattle.host.specs.Numbers.{held, bytes_limit, lowest_length, counts_held}

pub read_back : (k v : ℕ) → v < bytes_limit k → held (lowest_first k v) ≡ v
unfolding held bytes_limit lowest_first
read_back zero v h = omega arith
read_back (suc k) v h = omega (arith, read_back k (v / 256) (omega arith))

-- ---- at the greatest counts 8 bytes hold 8 times the limit on the plan's orders, so they hold the plan's length and that of its bytes

greatest_held : longest_order * order_limit bid_limit pool_limit < bytes_limit number_size
unfolding bytes_limit
greatest_held = omega arith

plan_held : (n m v : ℕ) → counts_refusal n m ≡ none → v ≤ longest_order * length (plan n m) → v < bytes_limit number_size
plan_held n m v counts h = omega (arith, length_limit n m (counted n m counts), greatest_held)

-- ---- the total

-- the slice of an accepted call for the total holds the total
pub total_read_back : (n m : ℕ) (out : List ℕ) → total_refusal n m (length out) ≡ none → held (total_slice plan n m out) ≡ length (plan n m)
total_read_back n m out accepted =
    ap held (total_given plan n m out accepted)
    ∙ read_back number_size (length (plan n m)) (plan_held n m _ (total_counts plan n m out accepted) (omega arith))

-- ---- the writer's three numbers

three_parts : (x y z : List ℕ) → length x ≡ number_size → length y ≡ number_size → length z ≡ number_size
    → (take number_size (drop 0 (x ++ (y ++ z))) ≡ x) × (take number_size (drop number_size (x ++ (y ++ z))) ≡ y) × (take number_size (drop (2 * number_size) (x ++ (y ++ z))) ≡ z)
three_parts x y z a b c =
    let second : drop number_size (x ++ (y ++ z)) ≡ y ++ z = drop_at x (y ++ z) number_size a in
    let third : drop (2 * number_size) (x ++ (y ++ z)) ≡ z = sym (drop-drop number_size number_size (x ++ (y ++ z))) ∙ ap (drop number_size) second ∙ drop_at y z number_size b in
    (take_at x (y ++ z) number_size a, ap (take number_size) second ∙ take_at y z number_size b, ap (take number_size) third ∙ take_all number_size z (omega arith))

by_parts : (x y : Written) → x.bytes ≡ y.bytes → x.orders ≡ y.orders → x.next ≡ y.next → x ≡ y
by_parts x y p q r = rw (sym p, sym q, sym r) refl

three_held : (w : Written) → w.bytes < bytes_limit number_size → w.orders < bytes_limit number_size → w.next < bytes_limit number_size → counts_held (count_bytes w) ≡ w
three_held w a b c =
    let long : (v : ℕ) → length (lowest_first number_size v) ≡ number_size = lowest_length number_size in
    let parts = three_parts (lowest_first number_size w.bytes) (lowest_first number_size w.orders) (lowest_first number_size w.next) (long _) (long _) (long _) in
    by_parts (counts_held (count_bytes w)) w
    (ap held parts.0 ∙ read_back number_size w.bytes a)
    (ap held parts.1 ∙ read_back number_size w.orders b)
    (ap held parts.2 ∙ read_back number_size w.next c)

-- the slice of an accepted call for a plan's bytes holds the counts of bytes and orders and the next position
pub counts_read_back : (by : Numbering) (n m at : ℕ) (bytes out : List ℕ) → bytes_refusal (plan_by by plan) n m at (length bytes) (length out) ≡ none
    → counts_held (counts_slice (plan_by by plan) n m at (length bytes) out) ≡ written_counts (plan_by by plan) n m at (length bytes)
unfolding written_counts
counts_read_back by n m at bytes out accepted =
    let P : Plan = plan_by by plan in
    let within = write_within P n m at (length bytes) (bytes_writing P n m at bytes out accepted) in
    let machine = plan_by_orders by n m within.counts in
    let as_long = plan_by_length plan n m by in
    let few = orders_within P n m within.counts machine at (length bytes) within.position in
    ap counts_held (counts_given P n m at bytes out accepted)
    ∙ three_held (written_counts P n m at (length bytes))
    (plan_held n m _ within.counts (omega (arith, as_long, bytes_within P n m within.counts machine at (length bytes))))
    (plan_held n m _ within.counts (omega (arith, as_long)))
    (plan_held n m _ within.counts (omega (arith, as_long)))
