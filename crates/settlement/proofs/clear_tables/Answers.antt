-- `clear_tables` meets its contract: refused counts are a refused book, which leaves the sheet, and other counts call for no more numbers than a text
-- gives.
use Rattle.std.proofs.Common.{sym, ap, ◌∙◌, length}
use Rattle.std.proofs.lemmas.Result.{err_from_is_err_and}
use Rattle.definitions.specs.Answers.{is_none}
use Rattle.definitions.specs.Calls.{seal_refusal}
use Rattle.laws.specs.Search.{turned_away, first_to_refuse}
use Rattle.settlement.specs.Settled.{book_at}
use Rattle.settlement.proofs.Texts.{counts_refuse, sheet_left}
use Rattle.settlement.proofs.clear_tables.Goals as goal

pub returns-in_err-counts-clause-refusal : goal.returns-in_err-counts-clause-refusal
unfolding seal_refusal
returns-in_err-counts-clause-refusal c =
    let p = err_from_is_err_and c.from_residual.result c.from_residual.ensures.1 in
    rw (p.1, p.2) (first_to_refuse c.in_err-counts.field-0.0 c.in_err-counts.ensures.refusal _)

pub returns-in_err-counts-clause-cells : goal.returns-in_err-counts-clause-cells
returns-in_err-counts-clause-cells c =
    let a = c.args in
    let refuses = turned_away c.in_err-counts.field-0.0 c.in_err-counts.ensures.refusal in
    let B = book_at a.tables.n a.tables.m a.numbers.now in
    sheet_left B a.sheet.now (ap is_none (sym (counts_refuse B (length a.sheet.now) refuses)) ∙ refuses)
