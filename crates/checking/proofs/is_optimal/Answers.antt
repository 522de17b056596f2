-- `is_optimal` meets its contract: the numbers are feasible, and the two welfares are compared.
use Rattle.std.proofs.Common.{◌≡◌, sym, ap₂, ◌∙◌, true, false, w64}
use borrow.Author.Rules.{sfits_of}
use Rattle.definitions.specs.Arithmetic.{eq_z}
use Rattle.definitions.specs.Book.{book_of}
use Rattle.definitions.specs.Checks.{sent_feasible}
use Rattle.laws.specs.SignedTests.{eq_bits}
use Rattle.checking.specs.Checked.{found_optimal}
use Rattle.checking.proofs.is_optimal.Goals as goal

pub returns-then-is_feasible : goal.returns-then-is_feasible
unfolding found_optimal
returns-then-is_feasible c =
    let yes : sent_feasible (book_of c.args.book.now) c.args.sent.now.amounts.now c.args.sent.now.flows.now ≡ true = sym c.is_feasible.ensures ∙ c.if-is_feasible.true in
    let sent = c.welfare_sent in
    let cleared = c.cleared_welfare in
    rw yes (eq_bits {w = w64} {x = sent.result} {y = cleared.result} (sfits_of sent.type_inv) (sfits_of cleared.type_inv) ∙ ap₂ eq_z sent.ensures cleared.ensures)

pub returns-else-is_feasible : goal.returns-else-is_feasible
unfolding found_optimal
returns-else-is_feasible c =
    let no : sent_feasible (book_of c.args.book.now) c.args.sent.now.amounts.now c.args.sent.now.flows.now ≡ false = sym c.is_feasible.ensures ∙ c.if-is_feasible.false in
    rw no c.if-is_feasible.false
