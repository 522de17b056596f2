-- The shift is the limit of the whole parts, and a pool's number in a book is one more than its index.
use Rattle.std.proofs.Common.{refl, add-one}
use Rattle.plan.specs.Table.{phase_at, table, work}
use Rattle.orders.specs.Shaped.{only_known}
use Rattle.orders.proofs.table.order_of.Goals as goal

pub returns-in-2 : goal.returns-in-2
unfolding phase_at table work
returns-in-2 c = only_known _ _ c.args.k 2 c.args.s c.in-2.is c.requires.in_phase refl refl _ (rw c.first-in-2.ensures refl)

pub returns-in-4 : goal.returns-in-4
unfolding phase_at table work
returns-in-4 c = only_known _ _ c.args.k 4 c.args.s c.in-4.is c.requires.in_phase refl refl _ (rw (c.first-in-4.ensures, add-one c.args.s.row) refl)
