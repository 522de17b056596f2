-- `total` meets its contract: 0 after a refusal of the counts, else the plan's length.
use Rattle.std.proofs.Common.{sym}
use Rattle.std.proofs.lemmas.Result.{err_from_is_err_and}
use Rattle.laws.specs.Search.{turned_away}
use Rattle.plan.specs.Plan.{plan}
use Rattle.plan.proofs.Asking.{total_accepted, total_refused}
use Rattle.orders.proofs.Plan.total.Goals as goal

pub returns-in_err-counts-clause-count : goal.returns-in_err-counts-clause-count
returns-in_err-counts-clause-count c =
    let p = err_from_is_err_and c.from_residual.result c.from_residual.ensures.1 in
    let e = c.in_err-counts in
    rw p.1 (sym (total_refused plan _ _ (turned_away e.field-0.0 e.ensures.refusal)))

pub returns-clause-count : goal.returns-clause-count
returns-clause-count c =
    let k = c.in_ok-counts.ensures in
    let made = c.new-tables.ensures in
    rw (c.length.ensures, made.0, made.1, k.counts.0, k.counts.1) (sym (total_accepted plan _ _ (sym k.refusal)))
