-- The scratch cells are cells of the sheet, and the last arm is that of the last phase.
use Rattle.std.proofs.Common.{◌≡◌, refl, arith}
use Rattle.definitions.specs.Counts.{bids_fit, pools_fit}
use Rattle.plan.proofs.PlanFacts.{names_fit}
use Rattle.plan.specs.Table.{phase_at, table, work}
use Rattle.orders.specs.Shaped.{shape_known}
use Rattle.orders.proofs.table.shape_of.Goals as goal

pub many-requires-in_default-clause-few : goal.many-requires-in_default-clause-few
many-requires-in_default-clause-few c =
    let k = c.args.counts in omega (arith, names_fit k.n k.m (bids_fit k) (pools_fit k), c.requires.scratch_value)

pub returns-in_default : goal.returns-in_default
unfolding phase_at table work
returns-in_default c =
    let last : c.args.k ≡ 33 = omega arith in
    let k = c.args.counts in
    shape_known k.n k.m c.args.k 33 _ _ _ _ _ last c.new-in_default.ensures.0 c.new-in_default.ensures.1 (omega arith)
    (omega (arith, c.many-in_default.ensures, c.requires.scratch_value), c.many-in_default.ensures.1) (refl, refl) (refl, refl) (refl, refl)
