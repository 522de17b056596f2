-- The plan's length and the limit on it (`plan_length`, `plan_bound`; `lengths` at some counts), its order at a position (`plan_has`), and that each of its orders is one of the
-- machine's and writes no input (`table_placed`, `plan_writes_no_input`).
use Rattle.std.specs.Prelude.{◌≡◌, refl, [], ◌∷◌, ℕ, ◌+◌, ◌*◌, ◌^◌, ◌≤◌, ◌<◌, length}
use Rattle.std.proofs.Common.{◌∙◌, mul-le-mul, mul-le-mul_left, pow_mono, arith}
use Rattle.std.proofs.Math.Nat.{pow-le-pow_left}
use Rattle.std.proofs.Math.ListN.{length-map}
use Rattle.definitions.specs.Limits.{bid_limit, pool_limit, cell_count}
use Rattle.definitions.specs.Arithmetic.{sum_to}
use Rattle.definitions.specs.Sheet.{first_result, first_scratch}
use Rattle.definitions.specs.Machine.{WellFormed}
use Rattle.definitions.specs.Outcome.{order_limit}
use Rattle.plan.specs.Orders.{OrderOn, constant, operate, Operation, adding, subtracting, multiplying, comparing, equating, target, order_of, renamed}
use Rattle.plan.specs.Names.{number, Name, at, family, Amounts, Temporaries, Temporary, family_count, rows_of, columns_of}
use Rattle.plan.proofs.LayoutFacts.{address_below, base_grows}
use Rattle.plan.specs.Entries.{All, all_map}
use Rattle.plan.specs.Phased.{row_size, table_size, flat, flat_length, Has, has_map, EachPhase, each_flat, each_last}
use Rattle.plan.specs.Table.{zero_phase, work, table}
use Rattle.plan.specs.Table.{scratch_count}
use Rattle.plan.specs.Numbered.{from, plan}
use Rattle.plan.specs.Numbered.{cell_of, cell_orders}
use Rattle.plan.proofs.Proper.{Valid, Proper, work_each}
use Rattle.plan.specs.Plan.{Writable, Placed, PlacedOrder, WritesWell, target_of, WritesNoInput}

-- how many sets of pools there are at most
pub power_small : (m : ℕ) → m ≤ pool_limit → 2 ^ m ≤ 2 ^ pool_limit
power_small m k = pow_mono k

-- at the limits every name has a cell of the sheet
pub names_fit : (n m : ℕ) → n ≤ bid_limit → m ≤ pool_limit → first_scratch n m + scratch_count n m ≤ cell_count
unfolding scratch_count sum_to
names_fit n m h k = omega (arith, power_small m k, mul-le-mul h k, mul-le-mul k k)

module _ (n m : ℕ) where
  -- ---- where results and scratch begin, and where the names end

  pub from_result : from n m (number Amounts) ≡ first_result n m
  unfolding from sum_to
  from_result = omega arith

  pub from_scratch : from n m (number Temporaries) ≡ first_scratch n m
  unfolding from sum_to
  from_scratch = omega arith

  pub from_end : from n m family_count ≡ first_scratch n m + scratch_count n m
  unfolding from sum_to scratch_count
  from_end = omega arith

  -- the scratch cell that a zero of the last phase is for
  pub zero_cell : (c : ℕ) → cell_of n m (Temporary c) ≡ first_scratch n m + c
  unfolding from
  zero_cell c = omega (arith, from_scratch)

  -- ---- the length

  pub plan_length : length (plan n m) ≡ table_size (table n m)
  unfolding plan
  plan_length = length-map (cell_orders n m) order_of ∙ length-map (flat (table n m)) (renamed (cell_of n m)) ∙ flat_length (table n m)

  -- in closed form, with so many sets of pools
  abbrev closed_length : ℕ → ℕ
  closed_length sets = n * n * (1 + 2 * m) + n * (31 + 24 * m + 12 * sets) + (12 + 19 * m + 9 * (m * m) + sets * (9 + 7 * (m * m)))

  plan_closed : length (plan n m) ≡ closed_length (2 ^ m)
  unfolding table_size row_size table work sum_to scratch_count
  plan_closed = omega (arith, plan_length)

  -- demand 3's limit on the count of orders: with m ≥ 1 its power is at least 64, which is more than each bid needs
  pub plan_bound : 0 < m → m ≤ pool_limit → length (plan n m) ≤ order_limit n m
  plan_bound p k = rw plan_closed (go (2 ^ m) ((m + 1) ^ 6) (power_small m k) (pow-le-pow_left {n = 2} {m = m + 1} (omega arith) 6))
    where
      go : (sets power : ℕ) → sets ≤ 2 ^ pool_limit → 2 ^ 6 ≤ power → closed_length sets ≤ n * (200 * n + 40 * power) + 10000
      go sets power a b =
          omega (
            arith,
            mul-le-mul_left (n * n) k,
            mul-le-mul_left n k,
            mul-le-mul_left n a,
            mul-le-mul_left n b,
            mul-le-mul k k,
            mul-le-mul a (mul-le-mul k k),
          )

  -- ---- the order at a position

  pub plan_has : (x : ℕ) (o : OrderOn Name) → Has (flat (table n m)) x o → Has (plan n m) x (order_of (renamed (cell_of n m) o))
  unfolding plan
  plan_has x o h = has_map order_of (cell_orders n m) x (renamed (cell_of n m) o) (has_map (renamed (cell_of n m)) (flat (table n m)) x o h)

  -- ---- every order is one of the machine's, and writes a result or scratch

  name_below : (c : Name) → Valid n m c → cell_of n m c < first_scratch n m + scratch_count n m
  unfolding from
  name_below c h = omega (arith, from_end, address_below (rows_of n m) (columns_of n m) family_count c h)

  name_writable : (c : Name) → Valid n m c → number Amounts ≤ number (family c) → Writable n m (cell_of n m c)
  unfolding from
  name_writable (at t i j) h l = (omega (arith, from_result, base_grows (rows_of n m) (columns_of n m) (number Amounts) (number t) l), name_below (at t i j) h)

  module _ (h : n ≤ bid_limit) (k : m ≤ pool_limit) where
    name_placed : (c : Name) → Valid n m c → Placed n m c
    name_placed (at t i j) v = (v.0, omega (arith, name_below (at t i j) v, names_fit n m h k))

    proper_placed : (o : OrderOn Name) → Proper n m o → PlacedOrder n m o
    proper_placed (constant d v) p = (name_placed d p.0, name_writable d p.0 p.1, p.2)
    proper_placed (operate op d a b) p = (name_placed d p.0, name_writable d p.0 p.1, name_placed a p.2, name_placed b p.3)

    zero_placed : (c : ℕ) → c < scratch_count n m → PlacedOrder n m (constant (Temporary c) 0)
    zero_placed c l =
        let e : cell_of n m (Temporary c) ≡ first_scratch n m + c = zero_cell c in
        let room : first_scratch n m + scratch_count n m ≤ cell_count = names_fit n m h k in
        ((omega arith, rw e (omega arith)), (rw e (omega arith), rw e (omega arith)), omega arith)

    pub table_placed : EachPhase (PlacedOrder n m) (table n m)
    unfolding table
    table_placed =
        each_last (Proper n m) (PlacedOrder n m) proper_placed (work n m) (work_each n m (omega arith)) (zero_phase n m)
        ((λ _ c _ l. (zero_placed c l, tt)), tt)

  pub placed_writes : (o : OrderOn Name) → PlacedOrder n m o → WritesWell n m (renamed (cell_of n m) o)
  placed_writes (constant d v) p = (p.1, (p.0.1, p.2))
  placed_writes (operate op d a b) p = (p.1, go op)
    where
      go : (op : Operation) → WellFormed (order_of (renamed (cell_of n m) (operate op d a b)))
      go adding = (p.0.1, p.2.1, p.3.1)
      go subtracting = (p.0.1, p.2.1, p.3.1)
      go multiplying = (p.0.1, p.2.1, p.3.1)
      go comparing = (p.0.1, p.2.1, p.3.1)
      go equating = (p.0.1, p.2.1, p.3.1)

  pub numbered_writes : n ≤ bid_limit → m ≤ pool_limit → All (WritesWell n m) (cell_orders n m)
  numbered_writes h k =
      all_map (PlacedOrder n m) (WritesWell n m) (renamed (cell_of n m)) placed_writes (flat (table n m)) (each_flat (PlacedOrder n m) (table n m) (table_placed h k))

target_is : (o : OrderOn ℕ) → target_of (order_of o) ≡ target o
target_is (constant d k) = refl
target_is (operate adding d a b) = refl
target_is (operate subtracting d a b) = refl
target_is (operate multiplying d a b) = refl
target_is (operate comparing d a b) = refl
target_is (operate equating d a b) = refl

pub plan_writes_no_input : (n m : ℕ) → n ≤ bid_limit → m ≤ pool_limit → All (WritesNoInput n m) (plan n m)
unfolding plan
plan_writes_no_input n m h k =
    all_map (WritesWell n m) (WritesNoInput n m) order_of (λ o w. (w.1, rw (target_is o) w.0.0)) (cell_orders n m)
    (numbered_writes n m h k)

-- the plan's length at the least and the greatest counts, and between
lengths :
    length (plan 0 1) ∷ length (plan 0 4) ∷ length (plan 8 2) ∷ length (plan 64 1) ∷ length (plan 64 2) ∷ length (plan 64 4) ∷ []
    ≡ 72 ∷ 2168 ∷ 1570 ∷ 17416 ∷ 28842 ∷ 59448 ∷ []
lengths = rw (plan_closed 0 1, plan_closed 0 4, plan_closed 8 2, plan_closed 64 1, plan_closed 64 2, plan_closed 64 4) refl
