-- `order_within` meets its contract: the place is divided by the size of a row.
use Rattle.std.proofs.Common.{◌<◌, ◌≡◌, ◌∙◌, arith}
use Rattle.plan.specs.Phased.{row_size, phase_size}
use Rattle.plan.specs.Table.{phase_at}
use Rattle.orders.specs.Shaped.{row_is}
use Rattle.orders.specs.Steps.{row_positive, row_within, place_within_lem, row_is_at, plan_at}
use Rattle.orders.proofs.tables.Tables.order_within.Goals as goal
use Rattle.orders.proofs.tables.Tables.order_within.Goals.{Start, After-row_size-row}

row : (c : After-row_size-row) → let t = c.args.self.now.counts in c.row_size-row.result ≡ row_size (phase_at t.n t.m c.args.place.stretch)
row c = c.row_size-row.ensures.0 ∙ row_is _ _ c.shape-shape.ensures

-- by the phase's size in the tables
inside : (s : Start) → let t = s.args.self.now.counts in s.args.place.before < phase_size (phase_at t.n t.m s.args.place.stretch)
inside s = rw (s.args.self.now.phases s.args.place.stretch s.requires.phase).is at s.requires.inside

pub order_in_row-requires-clause-i_bound : goal.order_in_row-requires-clause-i_bound
order_in_row-requires-clause-i_bound c = row_within _ c.args.place.before _ (row (goal.at.order_in_row-requires-clause-i_bound c).After-row_size-row) (inside (goal.at.order_in_row-requires-clause-i_bound c).Start)

pub order_in_row-requires-clause-x_bound : goal.order_in_row-requires-clause-x_bound
order_in_row-requires-clause-x_bound c = place_within_lem _ c.args.place.before _ (row (goal.at.order_in_row-requires-clause-x_bound c).After-row_size-row) (inside (goal.at.order_in_row-requires-clause-x_bound c).Start)

pub returns : goal.returns
returns c =
    let t = c.args.self.now in
    let p = c.args.place in
    plan_at t.counts.n t.counts.m t.sizes (omega arith) t.phases p.stretch p.before _ c.requires.phase
    (row_is_at _ p.before _ (row (goal.at.returns c).After-row_size-row) (inside (goal.at.returns c).Start) _ _ _ c.order_in_row.ensures)

pub nonzero_div-place : goal.nonzero_div-place
nonzero_div-place c = row_positive _ c.args.place.before _ (row (goal.at.nonzero_div-place c).After-row_size-row) (inside (goal.at.nonzero_div-place c).Start)

pub nonzero_rem-place : goal.nonzero_rem-place
nonzero_rem-place c = row_positive _ c.args.place.before _ (row (goal.at.nonzero_rem-place c).After-row_size-row) (inside (goal.at.nonzero_rem-place c).Start)
