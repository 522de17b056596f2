-- `try_run_plan` meets its contract: the counts are judged first; if they pass, all phases are run.
use Rattle.std.proofs.Common.{sym}
use Rattle.std.proofs.lemmas.Result.{err_from_is_err_and}
use Rattle.laws.specs.Search.{turned_away}
use Rattle.plan.specs.Plan.{plan}
use Rattle.plan.proofs.Asking.{total_accepted, total_refused}
use Rattle.orders.specs.Runs.{plan_stepped, plan_not_stepped}
use Rattle.orders.proofs.try_run_plan.Goals as goal

pub returns-in_err-counts-clause-count : goal.returns-in_err-counts-clause-count
returns-in_err-counts-clause-count c =
    let p = err_from_is_err_and c.from_residual.result c.from_residual.ensures.1 in
    let e = c.in_err-counts in
    rw p.1 (sym (total_refused plan _ _ (turned_away e.field-0.0 e.ensures.refusal)))

pub returns-in_err-counts-clause-cells : goal.returns-in_err-counts-clause-cells
returns-in_err-counts-clause-cells c =
    let e = c.in_err-counts in
    sym (plan_not_stepped plan _ _ _ (turned_away e.field-0.0 e.ensures.refusal))

pub returns-clause-count : goal.returns-clause-count
returns-clause-count c =
    let k = c.in_ok-counts.ensures in
    let made = c.new-tables.ensures in
    rw (c.length.ensures, made.0, made.1, k.counts.0, k.counts.1) (sym (total_accepted plan _ _ (sym k.refusal)))

pub returns-clause-cells : goal.returns-clause-cells
returns-clause-cells c =
    let k = c.in_ok-counts.ensures in
    let made = c.new-tables.ensures in
    rw (c.run.ensures, made.0, made.1, k.counts.0, k.counts.1) (sym (plan_stepped plan _ _ _ (sym k.refusal)))
