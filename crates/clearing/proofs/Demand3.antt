-- Demand 3, whole: one list of orders for every two accepted books of equal counts (`demand_3`).
use Rattle.std.specs.Prelude.{ℕ, ◌≡◌, List, length, ℤ, pos, ◌≤ℤ◌, refl}
use Rattle.std.proofs.Common.{subst, sym, ap, ◌∙◌}
use Rattle.definitions.specs.Limits.{cell_count}
use Rattle.definitions.specs.Book.{Book}
use Rattle.definitions.specs.Sheet.{sealed_sheet}
use Rattle.definitions.specs.Clearing.{welfare}
use Rattle.definitions.specs.PoolPrice.{pool_price, price_residue, hundredths_residue, presence}
use Rattle.definitions.specs.Machine.{AllWellFormed}
use Rattle.definitions.specs.Answers.{Refusal, none, unless}
use Rattle.definitions.specs.Bytes.{orders_bytes}
use Rattle.definitions.specs.Calls.{AcceptedBook, seal_refusal, counts_refusal}
use Rattle.definitions.specs.Outcome.{Outcome, result_of, plan_run, clear_sheet, clear_count, clear_welfare}
use Rattle.definitions.specs.RunningSum.{sales_welfare, clear_sales_welfare}
use Rattle.laws.specs.Refusal.{first_left}
use Rattle.laws.specs.AcceptedBook.{accepted_sound}
use Rattle.theory.specs.BestClearing.{best_welfare, welfare_of_best, sales_of_best}
use Rattle.theory.proofs.PoolPrice.{price_of_best}
use Rattle.runner.specs.Runs.{orders_bytes_run}
use Rattle.plan.specs.Plan.{plan}
use Rattle.plan.proofs.PlanOrders.{plan_orders, plan_length_limit}
use Rattle.plan.proofs.Asking.{asked_at_end}
use Rattle.plan.proofs.Collected.{collected_plan}
use Rattle.plan.proofs.AnExample.{three_pools}
use Rattle.clearing.specs.PlanClears.{plan_outcome, three_pools_accepted}
use Rattle.plan.proofs.SealedSheet.{sealed_is_sheet}
use Rattle.clearing.specs.Demand3.{HoldsPrices, ClearedBy, OnePlan}

module _ (A : Book) (accepted : AcceptedBook A) where
  -- an accepted book is sealed in any sheet of 4,096 cells
  not_refused : {X : Type 0} (given before : X) (cells : ℕ) → cells ≡ cell_count → unless (seal_refusal A cells) given before ≡ given
  not_refused given before cells e = ap (λ (r : Refusal). unless r given before) (ap (seal_refusal A) e ∙ accepted)

  pub counts : counts_refusal A.n A.m ≡ none
  unfolding seal_refusal
  counts = first_left (counts_refusal A.n A.m) _ accepted

  -- what is given of a sum over the amounts: of the welfare, and of that of the sales
  given_sum : (sum : Book → (ℕ → ℕ) → ℤ) → let left = sum A (result_of A (plan_run plan A)).accepted in unless (seal_refusal A cell_count) left (pos 0) ≡ left
  given_sum sum = not_refused (sum A (result_of A (plan_run plan A)).accepted) (pos 0) cell_count refl

  -- an outcome's prices are those of each best clearing
  pub prices_held : (sealed s : List ℕ) → Outcome A sealed s → HoldsPrices A s
  prices_held sealed s outcome c b p l =
      let same : pool_price A (result_of A s) p ≡ pool_price A c p = price_of_best A accepted (result_of A s) c outcome.best b p l in
      (outcome.prices p l ∙ ap price_residue same, outcome.hundredths p l ∙ ap hundredths_residue same, outcome.presences p l ∙ ap presence same)

  pub plan_orders_of : AllWellFormed (plan A.n A.m)
  plan_orders_of = let sound = accepted_sound A accepted in plan_orders A.n A.m sound.bids sound.pools

  pub cleared_by_plan : ClearedBy (plan A.n A.m) A
  unfolding plan_run clear_sheet clear_count clear_welfare clear_sales_welfare
  cleared_by_plan =
      let outcome = plan_outcome A accepted in
      record {
        is_plan = refl;
        is_asked = λ k l. collected_plan plan A.n A.m counts k l;
        ends = asked_at_end plan A.n A.m (length (plan A.n A.m)) counts refl;
        outcome = outcome;
        by_bytes = orders_bytes_run (sealed_sheet A) (plan A.n A.m) (sealed_is_sheet A (accepted_sound A accepted)) plan_orders_of;
        sheet = λ lent e. not_refused (plan_run plan A) lent (length lent) e;
        count = not_refused (length (plan A.n A.m)) 0 cell_count refl;
        welfare_given = λ c b. given_sum welfare ∙ welfare_of_best A accepted (result_of A (plan_run plan A)) c outcome.best b;
        greatest_welfare = λ d f. subst (λ (z : ℤ). welfare A d.accepted ≤ℤ z) (sym (given_sum welfare)) (best_welfare A accepted (result_of A (plan_run plan A)) outcome.best d f);
        sales_given = λ c b. given_sum sales_welfare ∙ sales_of_best A accepted (result_of A (plan_run plan A)) c outcome.best b;
        prices_given = prices_held (sealed_sheet A) (plan_run plan A) outcome;
      }

-- a book is cleared by the plan of another of the same counts
of_equal_counts : (A B : Book) → AcceptedBook B → A.n ≡ B.n → A.m ≡ B.m → ClearedBy (plan A.n A.m) B
of_equal_counts A B accepted n m = rw (n, m) (cleared_by_plan B accepted)

pub demand_3 : (A B : Book) → AcceptedBook A → AcceptedBook B → A.n ≡ B.n → A.m ≡ B.m → OnePlan A B
demand_3 A B a b n m =
    let of-A = cleared_by_plan A a in
    let of-B = of_equal_counts A B b n m in
    let sound = accepted_sound A a in
    record {
      orders = plan A.n A.m;
      machine_orders = plan_orders_of A a;
      first_book = of-A;
      second_book = of-B;
      same_bytes = ap orders_bytes (sym of-B.is_plan);
      same_count = of-A.count ∙ sym of-B.count;
      limit = plan_length_limit A.n A.m sound.bids sound.pools_positive sound.pools;
    }

-- an accepted book is all that it asks for
example : OnePlan three_pools three_pools
example = demand_3 three_pools three_pools three_pools_accepted three_pools_accepted refl refl
