-- The first part sums over the sets: the code knows the cell of the lowest pool.
use Rattle.std.proofs.Common.{refl, ap, ◌∙◌}
use Rattle.plan.specs.Names.{Placement}
use Rattle.plan.specs.Table.{slack_phase}
use Rattle.orders.specs.Shaped.{sum_at}
use Rattle.orders.proofs.table.slacks.Goals as goal

pub returns-then-s-eq0 : goal.returns-then-s-eq0
returns-then-s-eq0 c =
    let n = c.args.counts.n in
    let m = c.args.counts.m in
    sum_at (slack_phase n m) c.args.s 0 m Placement c.if-s-eq0.true c.requires refl refl _ _ c.subset_order.ensures (c.first.ensures ∙ ap Placement c.lowest_pool.ensures.0)
