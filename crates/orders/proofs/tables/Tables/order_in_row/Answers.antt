-- `order_in_row` meets its contract: the place in the row is one of a part, and there divided by the length of a block.
use Rattle.std.proofs.Common.{◌≡◌, arith, get_or}
use Rattle.plan.specs.Phased.{part_at}
use Rattle.plan.specs.Table.{phase_at}
use Rattle.orders.specs.Stretches.{from_start}
use Rattle.orders.specs.Steps.{Lies, lies, some_turn, found, found_at, row_end}
use Rattle.orders.proofs.tables.Tables.order_in_row.Goals as goal
use Rattle.orders.proofs.tables.Tables.order_in_row.Goals.{After-settled-at, After-index-shape-at}

pub settled-at-requires : goal.settled-at-requires
settled-at-requires c =
    omega (arith, row_end _ _ c.requires.shape _ c.sizes-sizes.ensures.sizes, from_start c.sizes-sizes.result c.args.x, c.requires.x_bound)

there : (c : After-settled-at) → let t = c.args.self.now.counts in Lies (phase_at t.n t.m c.args.k) c.args.x c.settled-at.result.stretch c.settled-at.result.before
there c = lies _ _ c.requires.shape _ c.sizes-sizes.ensures.sizes c.args.x _ _ c.settled-at.ensures.same c.settled-at.ensures.inside

turn : (c : After-index-shape-at) → let t = c.args.self.now.counts in
    (get_or c.args.shape.now.parts c.settled-at.result.stretch c.index-shape-at.result).turn ≡ (part_at (phase_at t.n t.m c.args.k) c.settled-at.result.stretch).turn
turn c = (c.requires.shape.parts c.settled-at.result.stretch c.index-shape-at.result (omega (arith, c.settled-at.ensures.stretch))).1

pub nonzero_div-s : goal.nonzero_div-s
nonzero_div-s c = let s = goal.at.nonzero_div-s c in some_turn _ c.args.x _ _ _ (there s.After-settled-at) (turn s.After-index-shape-at)

pub nonzero_rem-s : goal.nonzero_rem-s
nonzero_rem-s c = let s = goal.at.nonzero_rem-s c in some_turn _ c.args.x _ _ _ (there s.After-settled-at) (turn s.After-index-shape-at)

pub order-requires-clause-in_phase : goal.order-requires-clause-in_phase
order-requires-clause-in_phase c =
    let s = goal.at.order-requires-clause-in_phase c in
    found _ c.args.x _ _ _ (there s.After-settled-at) (turn s.After-index-shape-at) c.args.i c.requires.i_bound

pub returns : goal.returns
returns c =
    let s = goal.at.returns c in
    found_at _ c.args.x _ _ _ (there s.After-settled-at) (turn s.After-index-shape-at) c.args.i c.requires.i_bound _ _ _ c.order.ensures
