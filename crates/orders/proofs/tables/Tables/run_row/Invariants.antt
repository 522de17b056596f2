-- The first parts of the row are run, of the next part the first columns, and of the next column the first orders.
use Rattle.std.proofs.Common.{◌≡◌, take}
use Rattle.plan.specs.Loops.{loop}
use Rattle.plan.specs.Phased.{part_at, stretch}
use Rattle.plan.specs.Table.{phase_at}
use Rattle.orders.specs.Runs.{ran_of}
use Rattle.orders.proofs.tables.Tables.run_row.Given as goal

abbrev pub invariant-loop-part : goal.invariant-loop-part
invariant-loop-part l =
    let t = l.self.counts in
    l.sheet ≡ ran_of t.n t.m (loop l.part (λ u. stretch l.row (part_at (phase_at t.n t.m l.k) u))) l.initial.sheet

abbrev pub invariant-loop-column : goal.invariant-loop-column
invariant-loop-column l =
    let t = l.self.counts in
    l.sheet ≡ ran_of t.n t.m (loop l.column ((part_at (phase_at t.n t.m l.k) l.part).block l.row)) l.initial.sheet

abbrev pub invariant-loop-turn : goal.invariant-loop-turn
invariant-loop-turn l =
    let t = l.self.counts in
    l.sheet ≡ ran_of t.n t.m (take l.turn ((part_at (phase_at t.n t.m l.k) l.part).block l.row l.column)) l.initial.sheet
