-- The plan, and what is said of its orders: each is one of the machine's and writes a result or scratch. Its laws stand in proofs/PlanFacts.
use Rattle.std.specs.Prelude.{ℕ, ◌+◌, ◌≤◌, ◌<◌}
use Rattle.definitions.specs.declared.Order.{Order}
use Rattle.definitions.specs.declared.Order.TheVariants as unit
use Rattle.definitions.specs.Limits.{cell_count, modulus}
use Rattle.definitions.specs.Sheet.{first_result, first_scratch}
use Rattle.definitions.specs.Machine.{WellFormed}
use Rattle.plan.specs.Orders.{OrderOn, constant, operate, target, order_of}
use Rattle.plan.specs.Names.{number, Name, family, family_count}
unfoldable pub use Rattle.plan.specs.Table.{scratch_count}
unfoldable pub use Rattle.plan.specs.Numbered.{from, plan}
pub use Rattle.plan.specs.Numbered.{cell_of, cell_orders}

module _ (n m : ℕ) where
  -- a cell of the results or of the scratch that has names
  abbrev pub Writable : ℕ → Type 0
  Writable c = (first_result n m ≤ c) × (c < first_scratch n m + scratch_count n m)

  -- a name of a family, with a cell of the sheet
  abbrev pub Placed : Name → Type 0
  Placed c = (number (family c) < family_count) × (cell_of n m c < cell_count)

  -- an order on such cells, whose target may be written
  abbrev pub PlacedOrder : OrderOn Name → Type 0
  PlacedOrder (constant d k) = Placed d × Writable (cell_of n m d) × (k < modulus)
  PlacedOrder (operate op d a b) = Placed d × Writable (cell_of n m d) × Placed a × Placed b

  -- one of the machine's orders, with a target that may be written
  abbrev pub WritesWell : OrderOn ℕ → Type 0
  WritesWell o = Writable (target o) × WellFormed (order_of o)

-- the target of one of the machine's orders
abbrev pub target_of : Order → ℕ
target_of (unit.Constant d k) = d
target_of (unit.Sum d a b) = d
target_of (unit.Difference d a b) = d
target_of (unit.Product d a b) = d
target_of (unit.Less d a b) = d
target_of (unit.Equal d a b) = d

-- an order of the machine that writes a result or scratch
abbrev pub WritesNoInput : (n m : ℕ) → Order → Type 0
WritesNoInput n m o = WellFormed o × (first_result n m ≤ target_of o)
