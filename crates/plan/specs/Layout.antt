-- A layout: family t is a table of rows t by columns t cells, and the tables stand one after another by the families' numbers.
-- Different names have different cells (`address_apart`).
use Rattle.std.specs.Prelude.{ℕ, ◌+◌, ◌*◌, ◌<◌}
use Rattle.definitions.specs.Arithmetic.{sum_to}
use Rattle.plan.specs.Names.{Family, number, family_at, Name, at}

module _ (rows columns : Family → ℕ) where
  -- where family k begins
  abbrev pub base : ℕ → ℕ
  base k = sum_to k (λ u. rows (family_at u) * columns (family_at u))

  -- the cell of a name
  abbrev pub address : Name → ℕ
  address (at t i j) = base (number t) + (i * columns t + j)

  -- c is a cell of one of the first k families
  abbrev pub Named : ℕ → Name → Type 0
  Named k (at t i j) = (number t < k) × (i < rows t) × (j < columns t)
