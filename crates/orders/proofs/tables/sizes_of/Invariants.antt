-- The first k phases have their sizes.
use Rattle.std.proofs.Common.{ℕ, ◌<◌, ◌≡◌, length, get_or}
use Rattle.plan.specs.Table.{phase_count}
use Rattle.orders.specs.Tables.{IsSize}
use Rattle.orders.proofs.tables.sizes_of.Given as goal

abbrev pub invariant-loop-k : goal.invariant-loop-k
invariant-loop-k l = (length l.size-items ≡ phase_count) × ((f : ℕ) → f < l.k → IsSize l.counts.n l.counts.m f (get_or l.size-items f 0))
