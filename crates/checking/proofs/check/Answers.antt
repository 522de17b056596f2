-- `check` meets its contract: of what is not refused, what was found is exactly what yes says.
use Rattle.std.proofs.Common.{◌≡◌, sym, Bool, rules}
use Rattle.definitions.specs.Book.{book_of}
use Rattle.definitions.specs.Checks.{Passes, Exactly}
use Rattle.checking.specs.Checked.{answer_exact}
use Rattle.checking.proofs.check.Goals as goal

pub returns-clause-answer : goal.returns-clause-answer
returns-clause-answer c =
    let B = book_of c.args.book.now in
    let amounts = c.args.sent.now.amounts.now in
    let flows = c.args.sent.now.flows.now in
    let exact : (found : Bool) → found ≡ c.is_optimal.result → Exactly found (Passes B amounts flows) =
    λ found same. rw same (answer_exact B amounts flows (sym c.in_ok-judge_check.ensures) c.is_optimal.result c.is_optimal.ensures) in
    exact _ (search rules)
