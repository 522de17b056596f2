-- `run` meets its contract: the sheet changes only after all has been judged and nothing refused.
use Rattle.std.proofs.Common.{ℕ, ◌≡◌, sym, ap, ◌∙◌, Ok, Err, false, true≢false}
use Rattle.std.specs.Prelude.{IfOk}
use Rattle.std.specs.declared.result.Result.{Result}
use Rattle.std.proofs.lemmas.Result.{err_from_is_err_and}
use Rattle.definitions.specs.declared.Reason.{Reason}
use Rattle.definitions.specs.Machine.{IsSheet}
use Rattle.definitions.specs.Answers.{none, is_none, given_or, refusal_of}
use Rattle.definitions.specs.Calls.{run_refusal}
use Rattle.laws.specs.Search.{turned_away}
use Rattle.laws.specs.Verdicts.{stated_refuses}
use Rattle.runner.specs.Runs.{ran_on_sheet, sheet_refusal, sheet_run, sheet_refused, count_accepted, count_refused}
use Rattle.runner.proofs.run.Goals as goal
use Rattle.runner.proofs.run.Goals.{In_err-judge_run, In_ok-judge_run}

refused : (c : In_err-judge_run) → is_none (run_refusal c.args.sheet.now c.args.bytes.now) ≡ false
refused c = turned_away c.in_err-judge_run.field-0.0 c.in_err-judge_run.ensures

pub returns-in_err-judge_run-clause-count : goal.returns-in_err-judge_run-clause-count
returns-in_err-judge_run-clause-count c =
    let p = err_from_is_err_and c.from_residual.result c.from_residual.ensures.1 in
    rw (p.1) (sym (count_refused c.args.sheet.now c.args.bytes.now (refused (goal.at.returns-in_err-judge_run-clause-count c).In_err-judge_run)))

pub returns-in_err-judge_run-clause-cells : goal.returns-in_err-judge_run-clause-cells
returns-in_err-judge_run-clause-cells c =
    sym (sheet_refused c.args.sheet.now c.args.bytes.now (refused (goal.at.returns-in_err-judge_run-clause-cells c).In_err-judge_run))

is_sheet : (c : In_ok-judge_run) → IsSheet c.args.sheet.now
is_sheet c = ran_on_sheet c.args.sheet.now c.args.bytes.now (sym c.in_ok-judge_run.ensures)

pub run_orders-requires : goal.run_orders-requires
run_orders-requires c = is_sheet (goal.at.run_orders-requires c).In_ok-judge_run

-- what is not refused gives its count
given : (k : ℕ) (r : Result ℕ Reason) → refusal_of r ≡ none → IfOk r (λ n. n ≡ k) → given_or 0 r ≡ k
given k (Ok n) e h = h
given k (Err reason) e h = absurd (true≢false (ap is_none (sym e) ∙ stated_refuses reason))

pub returns-clause-refusal : goal.returns-clause-refusal
returns-clause-refusal c =
    c.run_orders.ensures.refusal ∙ sym (sheet_refusal c.args.sheet.now c.args.bytes.now (is_sheet (goal.at.returns-clause-refusal c).In_ok-judge_run))

pub returns-clause-count : goal.returns-clause-count
returns-clause-count c =
    let s = c.args.sheet.now in
    let bytes = c.args.bytes.now in
    let none_refused : none ≡ run_refusal s bytes = c.in_ok-judge_run.ensures in
    given _ c.run_orders.result (c.run_orders.ensures.refusal ∙ sym (sheet_refusal s bytes (is_sheet (goal.at.returns-clause-count c).In_ok-judge_run)) ∙ sym none_refused) c.run_orders.ensures.count
    ∙ sym (count_accepted s bytes (ap is_none (sym none_refused)))

pub returns-clause-cells : goal.returns-clause-cells
returns-clause-cells c =
    c.run_orders.ensures.cells ∙ sym (sheet_run c.args.sheet.now c.args.bytes.now (ap is_none (sym c.in_ok-judge_run.ensures)))
