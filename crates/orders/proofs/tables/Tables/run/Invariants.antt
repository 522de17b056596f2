-- The first k phases are run, and of phase k the first rows.
use Rattle.std.proofs.Common.{◌≡◌}
use Rattle.plan.specs.Loops.{loop}
use Rattle.plan.specs.Phased.{row_of, all_rows}
use Rattle.plan.specs.Table.{phase_at}
use Rattle.orders.specs.Runs.{ran_of}
use Rattle.orders.proofs.tables.Tables.run.Given as goal

abbrev pub invariant-loop-k : goal.invariant-loop-k
invariant-loop-k l =
    let t = l.self.counts in
    l.sheet ≡ ran_of t.n t.m (loop l.k (λ u. all_rows (phase_at t.n t.m u))) l.initial.sheet

abbrev pub invariant-loop-row : goal.invariant-loop-row
invariant-loop-row l =
    let t = l.self.counts in
    l.sheet ≡ ran_of t.n t.m (loop l.row (row_of (phase_at t.n t.m l.k))) l.initial.sheet
