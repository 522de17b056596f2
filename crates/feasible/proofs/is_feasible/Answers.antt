-- `is_feasible` meets its contract: of numbers that are not refused the three tests in turn are the definition's.
use Rattle.std.proofs.Common.{◌≡◌, not, sym, ◌∙◌, ap, length}
use Rattle.definitions.specs.Answers.{none, is_none}
use Rattle.definitions.specs.Book.{book_of}
use Rattle.definitions.specs.Checks.{sent_refusal, sent_feasible}
use Rattle.laws.specs.Verdicts.{passed_none, failed_refuses}
use Rattle.feasible.specs.Tests.{SentSizes, sent_sizes, tests_feasible}
use Rattle.feasible.proofs.is_feasible.Goals as goal
use Rattle.feasible.proofs.is_feasible.Goals.{Then-is_ok}

-- nothing is refused
accepted : (c : Then-is_ok) → sent_refusal (book_of c.args.book.now) (length c.args.sent.now.amounts.now) (length c.args.sent.now.flows.now) ≡ none
accepted c = sym c.judge_sent.ensures.refusal ∙ passed_none c.judge_sent.result (c.is_ok.ensures.negation ∙ ap not c.if-is_ok.true)

sizes : (c : Then-is_ok) → SentSizes (book_of c.args.book.now) (length c.args.sent.now.amounts.now) (length c.args.sent.now.flows.now)
sizes c = sent_sizes (book_of c.args.book.now) (length c.args.sent.now.amounts.now) (length c.args.sent.now.flows.now) (accepted c)

pub are_feasible-requires : goal.are_feasible-requires
are_feasible-requires c = sizes c

pub returns-then-is_ok : goal.returns-then-is_ok
unfolding sent_feasible
returns-then-is_ok c =
    let B = book_of c.args.book.now in
    let amounts = c.args.sent.now.amounts.now in
    let flows = c.args.sent.now.flows.now in
    rw (accepted c.before) (c.are_feasible.ensures ∙ tests_feasible B amounts flows (sizes c.before))

pub returns-else-is_ok : goal.returns-else-is_ok
unfolding sent_feasible
returns-else-is_ok c =
    let no = ap is_none (sym c.judge_sent.ensures.refusal) ∙ failed_refuses c.judge_sent.result (c.is_ok.ensures.negation ∙ ap not c.if-is_ok.false) in
    rw no c.if-is_ok.false
