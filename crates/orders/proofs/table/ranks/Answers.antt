-- The first part sums over the sets: the code knows the cell of the lowest pool; the last is the third.
use Rattle.std.proofs.Common.{refl, ap, ◌∙◌, arith}
use Rattle.plan.specs.Names.{Name, at}
use Rattle.plan.specs.Table.{Phase, rank_phase}
use Rattle.plan.specs.Blocks.{cost_turn}
use Rattle.orders.specs.Named.{made}
use Rattle.orders.specs.Shaped.{sum_at, of_part}
use Rattle.orders.proofs.table.ranks.Goals as goal
use Rattle.orders.proofs.table.ranks.Goals.{Start}

-- the phase of the function's arguments
abbrev here : Start → Phase
here s = rank_phase s.args.counts.n s.args.counts.m (at s.args.sizes) (λ x. at s.args.ranks x 0)

pub returns-in-0 : goal.returns-in-0
returns-in-0 c =
    let a = c.args in
    sum_at (here (goal.at.returns-in-0 c).Start) a.s 0 a.counts.m (at a.sizes a.s.row) c.in-0.is c.requires refl refl _ _ c.subset_order.ensures
    (c.cell.ensures ∙ ap (at a.sizes a.s.row) c.lowest_pool.ensures.0)

pub returns-in_default : goal.returns-in_default
returns-in_default c =
    let a = c.args in
    of_part (here (goal.at.returns-in_default c).Start) a.s 2 _ (omega (arith, c.requires.part))
    (c.cost_turn.ensures ∙ ap (λ (d : Name). made (cost_turn a.counts.m d a.s.column) a.s.turn) c.first-in_default.ensures)
