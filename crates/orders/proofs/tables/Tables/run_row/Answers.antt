-- `run_row` meets its contract: each turn of a loop runs one block, column or part more.
use Rattle.std.proofs.Common.{ℕ, ◌≡◌, ap, ◌∙◌, arith, List, get_or}
use Rattle.machine.specs.Step.{stepped}
use Rattle.plan.specs.Orders.{OrderOn}
use Rattle.plan.specs.Names.{Name}
use Rattle.plan.specs.Loops.{loop}
use Rattle.plan.specs.Phased.{part_at, stretch}
use Rattle.plan.specs.Table.{phase_at}
use Rattle.orders.specs.Limits.{part_limit}
use Rattle.orders.specs.Shaped.{IsPart, order_in}
use Rattle.orders.specs.Runs.{ran_of, ran_one, step_one, block_ran, row_of_four}
use Rattle.orders.proofs.tables.Tables.run_row.Goals as goal
use Rattle.orders.proofs.tables.Tables.run_row.Goals.{After-columns-item}

-- the part that is run has the numbers of part q
known : (c : After-columns-item) → IsPart (phase_at c.args.self.now.counts.n c.args.self.now.counts.m c.args.k) c.loop-part.part (get_or c.args.shape.now.parts c.loop-part.part c.columns-item.result)
known c = c.requires.shape.parts c.loop-part.part c.columns-item.result c.loop-part-test.true

pub loop-turn-preserved : goal.loop-turn-preserved
unfolding order_in
loop-turn-preserved c =
    let a = c.args in
    let n = a.self.now.counts.n in
    let m = a.self.now.counts.m in
    let part = part_at (phase_at n m a.k) c.loop-part.part in
    let is = known (goal.at.loop-turn-preserved c).After-columns-item in
    step_one n m (part.block a.row c.loop-column.column) _ _ _ c.loop-turn.turn c.loop-turn.invariant (omega (arith, c.loop-turn-test.true, is.1, part.fair a.row c.loop-column.column))
    (c.step.ensures ∙ ap (stepped c.loop-turn.sheet) c.order.ensures)

pub loop-column-preserved : goal.loop-column-preserved
loop-column-preserved c =
    let a = c.args in
    let n = a.self.now.counts.n in
    let m = a.self.now.counts.m in
    let part = part_at (phase_at n m a.k) c.loop-part.part in
    let is = known (goal.at.loop-column-preserved c).After-columns-item in
    ran_one n m (part.block a.row) _ _ _ c.loop-column.column c.loop-column.invariant
    (block_ran n m (part.block a.row c.loop-column.column) _ _ c.loop-turn.turn c.loop-turn.invariant (omega (arith, c.loop-turn-test.false, c.loop-turn.auto.turn-end, is.1, part.fair a.row c.loop-column.column)))

pub returns : goal.returns
returns c =
    let a = c.args in
    let n = a.self.now.counts.n in
    let m = a.self.now.counts.m in
    let p = phase_at n m a.k in
    let f : ℕ → List (OrderOn Name) = λ u. stretch a.row (part_at p u) in
    let last : c.loop-part.part ≡ part_limit = omega (arith, c.loop-part-test.false, c.loop-part.auto.part-end) in
    c.loop-part.invariant
    ∙ ap (λ (k : ℕ). ran_of n m (loop k f) a.sheet.now) last
    ∙ ap (λ (l : List (OrderOn Name)). ran_of n m l a.sheet.now) (row_of_four p a.row c.requires.shape.most)
