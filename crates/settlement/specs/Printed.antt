-- What settle prints for an accepted book is its best clearing, with permitted flows (`printed_best`). For example 2 these are document 01's
-- six lines, with the prices of request 4, prices and welfare in hundredths (`example_printed`).
use Rattle.std.specs.Prelude.{ℕ, ◌≡◌, refl, List, [], ◌∷◌, get_or, pos}
use Rattle.std.proofs.Common.{ap, ap₂, ◌∙◌}
use Rattle.definitions.specs.Arithmetic.{join_to}
use Rattle.definitions.specs.Book.{Book}
use Rattle.definitions.specs.Examples.{book_two, text_two, printed_two}
use Rattle.definitions.specs.Clearing.{Clearing, Best, Permitted, welfare}
use Rattle.definitions.specs.PoolPrice.{missing}
use Rattle.definitions.specs.Answers.{Refusal, unless}
use Rattle.definitions.specs.Calls.{AcceptedBook}
use Rattle.definitions.specs.Outcome.{result_of, clearing_results, plan_run, clear_welfare}
use Rattle.definitions.specs.Settle.{readable, settle_input, input_text, settle_text, listing}
use Rattle.definitions.specs.Settle as settle
use Rattle.definitions.proofs.SettleFacts.{read_two, listed_two}
use Rattle.opening.specs.Opened.{opened_outcome}
use Rattle.plan.specs.Plan.{plan}
use Rattle.clearing.specs.PlanClears.{plan_outcome}
use Rattle.examples.specs.Examples.{listed}
use Rattle.examples.proofs.Examples.{proved_examples}

-- the text printed is the listing of a best clearing with permitted flows, and of its welfare
pub record Printed (B : Book) (text : List ℕ) : Type 0 where
  pub clearing : Clearing
  pub best : Best B clearing
  pub permitted : Permitted B clearing
  pub lines : text ≡ listing B.n B.m (clearing_results B clearing) (welfare B clearing.accepted)

pub printed_best : (text : List ℕ) (B : Book) → settle_input text ≡ readable B → AcceptedBook B → Printed B (settle_text plan text)
unfolding settle_text input_text clear_welfare
printed_best text B read accepted =
    let outcome = plan_outcome B accepted in
    record {
      clearing = result_of B (plan_run plan B);
      best = outcome.best;
      permitted = outcome.permitted;
      lines =
          ap (input_text plan) read
          ∙ ap (settle.book_text plan B) accepted
          ∙ ap₂ (listing B.n B.m) (opened_outcome B accepted (plan_run plan B) outcome)
          (ap (λ (r : Refusal). unless r (welfare B (result_of B (plan_run plan B)).accepted) (pos 0)) accepted);
    }

-- ---- example 2

-- an entry of equal lists
at : {A : Type 0} {xs ys : List A} (i : ℕ) (d : A) → xs ≡ ys → get_or xs i d ≡ get_or ys i d
at i d e = ap (λ xs. get_or xs i d) e

two_results : (c : Clearing) → Best book_two c → Permitted book_two c
    → clearing_results book_two c ≡ pos 3 ∷ pos 3 ∷ pos 0 ∷ pos 3 ∷ pos 0 ∷ pos 0 ∷ pos 20 ∷ pos 0 ∷ pos 1 ∷ pos 30 ∷ pos 0 ∷ pos 1 ∷ []
unfolding book_two clearing_results join_to listed
two_results c best permitted =
    let two = proved_examples.two in
    let amounts = two.accepts c best in
    let flows = two.ships c best permitted in
    let prices = two.priced c best in
    rw (at 0 0 amounts, at 1 0 amounts, at 0 0 flows, at 1 0 flows, at 2 0 flows, at 3 0 flows, at 0 missing prices, at 1 missing prices) refl

pub example_printed : settle_text plan text_two ≡ printed_two
unfolding book_two
example_printed =
    let two = proved_examples.two in
    let printed = printed_best text_two book_two read_two two.accepted in
    printed.lines
    ∙ ap₂ (listing 2 2) (two_results printed.clearing printed.best printed.permitted) (two.worth printed.clearing printed.best)
    ∙ listed_two
