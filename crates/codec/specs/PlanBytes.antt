-- A list of orders and its bytes: orders are read back from their bytes (orders_read_back), bytes that are accepted are those of the orders read (accepted_bytes_shortest),
-- and orders whose bytes are accepted are the machine's (accepted_only).
use Rattle.std.specs.Prelude.{ltb, true, false, ℕ, zero, suc, ◌+◌, ◌-◌, ◌<◌, ◌≤◌, ◌≡◌, Bool, cond, refl, List, [], ◌∷◌, ◌++◌, length, drop}
use Rattle.std.proofs.Common.{sym, ap, ◌∙◌, drop-drop, lt-ltb, le-ltb, arith, drop_of_length-le, length-append, length-drop}
use Rattle.std.proofs.Math.Seq.{drop-append_seam}
use Rattle.definitions.specs.declared.Order.{Order}
use Rattle.definitions.specs.Answers.{none, refuse}
use Rattle.definitions.specs.Machine.{AllWellFormed}
use Rattle.definitions.specs.Bytes.{order_bytes, orders_bytes, Read, fault, found, order_at, Parsed, no_orders, one_more, continue, parse_from, parse}
use Rattle.laws.specs.Tests.{Lt?, less, more, lt?}
use Rattle.laws.specs.Refusal.{not_refused}
use Rattle.codec.specs.Groups.{Bytes}
use Rattle.codec.specs.OrderBytes.{bytes_append, order_bytes_lem, at_least_three}
use Rattle.codec.specs.OrderReadBack.{read_written}
use Rattle.codec.specs.OrderShortest.{order_read, only_shortest}
use Rattle.codec.specs.OrderAccepted.{accepted_written}

pub orders_bytes_lem : (os : List Order) → Bytes (orders_bytes os)
unfolding orders_bytes
orders_bytes_lem [] i = omega arith
orders_bytes_lem (o ∷ os) i = bytes_append (order_bytes o) (orders_bytes os) (order_bytes_lem o) (orders_bytes_lem os) i

-- ---- one turn of reading

module _ (s : List ℕ) (k at : ℕ) where
  pub parse_end : length s ≤ at → parse_from s k at ≡ no_orders none
  unfolding parse_from
  parse_end h = go k
    where
      go : (k : ℕ) → parse_from s k at ≡ no_orders none
      go zero = refl
      go (suc k) = rw (le-ltb at (length s) h) refl

  pub parse_order : at < length s → (o : Order) (next : ℕ) → order_at s at ≡ found o next → parse_from s (suc k) at ≡ one_more o (parse_from s k next)
  unfolding parse_from
  parse_order h o next e = rw (lt-ltb at (length s) h, e) refl

  pub parse_refused : at < length s → (number : ℕ) → order_at s at ≡ fault number → parse_from s (suc k) at ≡ no_orders (refuse number at)
  unfolding parse_from
  parse_refused h number e = rw (lt-ltb at (length s) h, e) refl

-- ---- from orders to bytes and back

module _ (s : List ℕ) where
  read_back : (k at : ℕ) (os : List Order) → AllWellFormed os → length (orders_bytes os) ≤ k → drop at s ≡ orders_bytes os → parse_from s k at ≡ record { orders = os; refusal = none }
  unfolding orders_bytes
  read_back k at [] w h e = parse_end s k at (omega (arith, length-drop at s, ap length e))
  read_back zero at (o ∷ os) w h e = absurd (omega (arith, at_least_three o, length-append (order_bytes o) (orders_bytes os)))
  read_back (suc k) at (o ∷ os) w h e =
      let n = length-append (order_bytes o) (orders_bytes os) in
      let l : at < length s = omega (arith, at_least_three o, n, length-drop at s, ap length e) in
      let next : ℕ = at + length (order_bytes o) in
      let later : drop next s ≡ orders_bytes os = sym (drop-drop (length (order_bytes o)) at s) ∙ ap (drop (length (order_bytes o))) e ∙ drop-append_seam (order_bytes o) (orders_bytes os) in
      parse_order s k at l o next (read_written s at o (orders_bytes os) w.0 e)
      ∙ ap (one_more o) (read_back k next os w.1 (omega (arith, at_least_three o, n)) later)

pub orders_read_back : (os : List Order) → AllWellFormed os → parse (orders_bytes os) ≡ record { orders = os; refusal = none }
unfolding parse
orders_read_back os w = read_back (orders_bytes os) (length (orders_bytes os)) 0 os w (omega arith) refl

-- ---- from bytes to orders and back

module _ (s : List ℕ) where
  from_well_formed : (k at : ℕ) → AllWellFormed (parse_from s k at).orders
  unfolding parse_from
  from_well_formed zero at = tt
  from_well_formed (suc k) at = go (lt? at (length s)) (λ n. from_well_formed k n)
    where
      go : {t : Bool} → Lt? at (length s) t → ((n : ℕ) → AllWellFormed (parse_from s k n).orders)
          → AllWellFormed (cond t (continue at (order_at s at) (λ next. parse_from s k next)) (no_orders none)).orders
      go (more h) later = tt
      go (less h) later = one (order_at s at) refl
        where
          one : (r : Read Order) → order_at s at ≡ r → AllWellFormed (continue at r (λ next. parse_from s k next)).orders
          one (fault number) e = tt
          one (found o next) e = ((order_read s at o next e).well_formed, later next)

  -- k orders are enough, since each has a byte at least
  from_bytes : Bytes s → (k at : ℕ) → length s ≤ at + k → (parse_from s k at).refusal ≡ none → drop at s ≡ orders_bytes (parse_from s k at).orders
  unfolding parse_from orders_bytes
  from_bytes b zero at h e = drop_of_length-le s (let l : length s ≤ at = omega arith in l)
  from_bytes b (suc k) at h e = go (lt? at (length s)) (λ n l f. from_bytes b k n l f) e
    where
      go : {t : Bool} → Lt? at (length s) t → ((n : ℕ) → length s ≤ n + k → (parse_from s k n).refusal ≡ none → drop n s ≡ orders_bytes (parse_from s k n).orders)
          → (cond t (continue at (order_at s at) (λ next. parse_from s k next)) (no_orders none)).refusal ≡ none
          → drop at s ≡ orders_bytes (cond t (continue at (order_at s at) (λ next. parse_from s k next)) (no_orders none)).orders
      go (more l) later e = drop_of_length-le s l
      go (less l) later e = one (order_at s at) refl e
        where
          one : (r : Read Order) → order_at s at ≡ r → (continue at r (λ next. parse_from s k next)).refusal ≡ none → drop at s ≡ orders_bytes (continue at r (λ next. parse_from s k next)).orders
          one (fault number) q e = not_refused e
          one (found o next) q e =
              let r = only_shortest s at o next b q in
              r.bytes ∙ ap (λ (xs : List ℕ). order_bytes o ++ xs) (later next (omega (arith, r.size, at_least_three o)) e)

pub parsed_well_formed : (s : List ℕ) → AllWellFormed (parse s).orders
unfolding parse
parsed_well_formed s = from_well_formed s (length s) 0

pub accepted_bytes_shortest : (s : List ℕ) → Bytes s → (parse s).refusal ≡ none → (s ≡ orders_bytes (parse s).orders) × AllWellFormed (parse s).orders
unfolding parse
accepted_bytes_shortest s b e = (from_bytes s b (length s) 0 (omega arith) e, from_well_formed s (length s) 0)

-- the bytes of some orders are accepted only if each is one of the machine's, and are then read back as those orders
module _ (s : List ℕ) where
  from_written : (k at : ℕ) (os : List Order) → length (orders_bytes os) ≤ k → drop at s ≡ orders_bytes os → (parse_from s k at).refusal ≡ none → AllWellFormed os
  unfolding orders_bytes
  from_written k at [] h e q = tt
  from_written zero at (o ∷ os) h e q = absurd (omega (arith, at_least_three o, length-append (order_bytes o) (orders_bytes os)))
  from_written (suc k) at (o ∷ os) h e q = go (order_at s at) refl (λ n l d f. from_written k n os l d f)
    where
      size : length (order_bytes o ++ orders_bytes os) ≡ length (order_bytes o) + length (orders_bytes os)
      size = length-append (order_bytes o) (orders_bytes os)

      inside : at < length s
      inside = omega (arith, at_least_three o, size, length-drop at s, ap length e)

      go : (r : Read Order) → order_at s at ≡ r → ((n : ℕ) → length (orders_bytes os) ≤ k → drop n s ≡ orders_bytes os → (parse_from s k n).refusal ≡ none → AllWellFormed os) → AllWellFormed (o ∷ os)
      go (fault number) u others = not_refused (sym (ap (λ (p : Parsed). p.refusal) (parse_refused s k at inside number u)) ∙ q)
      go (found read after) u others =
          let w = accepted_written s at o (orders_bytes os) e u in
          let next : ℕ = at + length (order_bytes o) in
          let later : drop next s ≡ orders_bytes os = sym (drop-drop (length (order_bytes o)) at s) ∙ ap (drop (length (order_bytes o))) e ∙ drop-append_seam (order_bytes o) (orders_bytes os) in
          let rest : (parse_from s k next).refusal ≡ none = sym (ap (λ (p : Parsed). p.refusal) (parse_order s k at inside o next (read_written s at o (orders_bytes os) w e))) ∙ q in
          (w, others next (omega (arith, at_least_three o, size)) later rest)

pub accepted_only : (os : List Order) → (parse (orders_bytes os)).refusal ≡ none → AllWellFormed os × ((parse (orders_bytes os)).orders ≡ os)
unfolding parse
accepted_only os q =
    let w = from_written (orders_bytes os) (length (orders_bytes os)) 0 os (omega arith) refl q in
    (w, ap (λ (p : Parsed). p.orders) (orders_read_back os w))

-- each order has a byte at least
from_at_most : (s : List ℕ) (k at : ℕ) → length (parse_from s k at).orders ≤ k
unfolding parse_from
from_at_most s zero at = omega arith
from_at_most s (suc k) at = go (ltb at (length s)) (order_at s at) (from_at_most s k)
  where
    go : (t : Bool) (r : Read Order) → ((next : ℕ) → length (parse_from s k next).orders ≤ k) → length (cond t (continue at r (λ next. parse_from s k next)) (no_orders none)).orders ≤ suc k
    go true (fault number) later = omega arith
    go true (found o next) later = omega (arith, later next)
    go false r later = omega arith

pub orders_at_most : (s : List ℕ) → length (parse s).orders ≤ length s
unfolding parse
orders_at_most s = from_at_most s (length s) 0

-- ---- reading on from an offset, turn by turn

-- all orders from an offset on
abbrev pub parse_rest : List ℕ → (at : ℕ) → Parsed
parse_rest s at = parse_from s (length s - at) at

module _ (s : List ℕ) where
  -- any number of turns that is enough gives the same
  enough : (k l at : ℕ) → length s ≤ at + k → length s ≤ at + l → parse_from s k at ≡ parse_from s l at
  enough zero l at h i = parse_end s 0 at (omega arith) ∙ sym (parse_end s l at (omega arith))
  enough (suc k) zero at h i = parse_end s (suc k) at (omega arith) ∙ sym (parse_end s 0 at (omega arith))
  enough (suc k) (suc l) at h i = go (lt? at (length s)) (λ n p q. enough k l n p q)
    where
      go : {t : Bool} → Lt? at (length s) t → ((n : ℕ) → length s ≤ n + k → length s ≤ n + l → parse_from s k n ≡ parse_from s l n) → parse_from s (suc k) at ≡ parse_from s (suc l) at
      go (more p) later = parse_end s (suc k) at p ∙ sym (parse_end s (suc l) at p)
      go (less p) later = one (order_at s at) refl
        where
          one : (r : Read Order) → order_at s at ≡ r → parse_from s (suc k) at ≡ parse_from s (suc l) at
          one (fault number) e = parse_refused s k at p number e ∙ sym (parse_refused s l at p number e)
          one (found o next) e =
              let r = order_read s at o next e in
              parse_order s k at p o next e ∙ ap (one_more o) (later next (omega (arith, r.onward)) (omega (arith, r.onward))) ∙ sym (parse_order s l at p o next e)

  pub rest_start_lem : parse s ≡ parse_rest s 0
  unfolding parse
  rest_start_lem = enough (length s) (length s - 0) 0 (omega arith) (omega arith)

  pub rest_end : (at : ℕ) → length s ≤ at → parse_rest s at ≡ no_orders none
  rest_end at h = parse_end s (length s - at) at h

  pub rest_order : (at : ℕ) (o : Order) (next : ℕ) → at < length s → order_at s at ≡ found o next → parse_rest s at ≡ one_more o (parse_rest s next)
  rest_order at o next h e =
      let r = order_read s at o next e in
      let k : length s - at ≡ suc (length s - at - 1) = omega arith in
      ap (λ (n : ℕ). parse_from s n at) k
      ∙ parse_order s (length s - at - 1) at h o next e
      ∙ ap (one_more o) (enough (length s - at - 1) (length s - next) next (omega (arith, r.onward)) (omega arith))

  pub rest_refused : (at number : ℕ) → at < length s → order_at s at ≡ fault number → parse_rest s at ≡ no_orders (refuse number at)
  rest_refused at number h e =
      let k : length s - at ≡ suc (length s - at - 1) = omega arith in
      ap (λ (n : ℕ). parse_from s n at) k ∙ parse_refused s (length s - at - 1) at h number e
