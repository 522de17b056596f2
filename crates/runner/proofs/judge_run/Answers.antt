-- `judge_run` meets its contract: the length, then the cells, then the bytes.
use Rattle.std.proofs.Common.{sym, ap, ◌∙◌}
use Rattle.std.proofs.lemmas.Result.{err_from_is_err_and}
use Rattle.definitions.specs.Answers.{is_none}
use Rattle.laws.specs.Search.{turned_away}
use Rattle.runner.specs.Runs.{refused_length, refused_cells, refused_bytes}
use Rattle.runner.proofs.judge_run.Goals as goal

pub returns-then-sheet-ne-CELLS : goal.returns-then-sheet-ne-CELLS
returns-then-sheet-ne-CELLS c = sym (refused_length c.args.sheet.now c.args.bytes.now c.if-sheet-ne-CELLS.true)

pub returns-in_err-judge_cells : goal.returns-in_err-judge_cells
returns-in_err-judge_cells c =
    let p = err_from_is_err_and c.from_residual.result c.from_residual.ensures.1 in
    let right = c.in_err-judge_cells.ensures in
    rw (p.1, p.2) (right ∙ sym (refused_cells c.args.sheet.now c.args.bytes.now c.if-sheet-ne-CELLS.false (turned_away c.in_err-judge_cells.field-0.0 right)))

pub returns : goal.returns
returns c = c.judge_bytes.ensures ∙ sym (refused_bytes c.args.sheet.now c.args.bytes.now c.if-sheet-ne-CELLS.false (ap is_none (sym c.in_ok-judge_cells.ensures)))
