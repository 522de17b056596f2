-- The orders got by asking at 0 and then at each position handed back, until the plan has ended, are the plan (`collected_plan`),
-- and the total is how many they are (`total_collected`).
use Rattle.std.specs.Prelude.{ℕ, zero, suc, ◌+◌, ◌-◌, ◌≤◌, ◌<◌, ◌≡◌, refl, Bool, true, false, List, [], ◌∷◌, ltb, length, get_or, drop}
use Rattle.std.proofs.Common.{sym, ◌∙◌, arith, add-one, drop_of_length-le, drop-cons, ap}
use Rattle.definitions.specs.declared.Order.{Order}
use Rattle.definitions.specs.declared.Order.TheVariants.{Constant}
use Rattle.definitions.specs.Answers.{Refusal, none, refuse, is_none}
use Rattle.definitions.specs.Calls.{counts_refusal}
use Rattle.definitions.specs.Plan.{Plan, Answer, asked, collect, collected, total}
use Rattle.laws.specs.Tests.{Lt?, less, more, lt?}
use Rattle.plan.proofs.Asking.{refused_by_counts, asked_at_end, asked_before_end, total_accepted, total_refused}

module _ (P : Plan) (n m : ℕ) where
  -- one answer, and the orders after it
  one_asked : (k at : ℕ) (answer : Answer) → asked P n m at ≡ answer
      → collected (asked P n m) (suc k) at ≡ collect answer (λ next. collected (asked P n m) k next)
  unfolding collected
  one_asked k at answer e = ap (λ (a : Answer). collect a (λ next. collected (asked P n m) k next)) e

  -- from a position on, whatever number k of answers is enough to come to the end
  pub collected_from : counts_refusal n m ≡ none → (k at : ℕ) → at ≤ length (P n m) → length (P n m) - at < k
      → collected (asked P n m) k at ≡ drop at (P n m)
  collected_from counts zero at within enough = absurd (let x : ⊥ = omega arith in x)
  collected_from counts (suc k) at within enough = go (ltb at (length (P n m))) (lt? at (length (P n m))) (λ h. collected_from counts k (at + 1) (omega arith) (omega arith))
    where
      go : (t : Bool) → Lt? at (length (P n m)) t → (at < length (P n m) → collected (asked P n m) k (at + 1) ≡ drop (at + 1) (P n m))
          → collected (asked P n m) (suc k) at ≡ drop at (P n m)
      go true (less h) later =
          one_asked k at _ (asked_before_end P n m at counts h)
          ∙ ap (λ (os : List Order). get_or (P n m) at (Constant 0 0) ∷ os) (later h ∙ ap (λ (i : ℕ). drop i (P n m)) (add-one at))
          ∙ sym (drop-cons (P n m) at (Constant 0 0) h)
      go false (more h) later =
          one_asked k at _ (asked_at_end P n m at counts (omega arith)) ∙ sym (drop_of_length-le (P n m) h)

  pub collected_plan : counts_refusal n m ≡ none → (k : ℕ) → length (P n m) < k → collected (asked P n m) k 0 ≡ P n m
  collected_plan counts k enough = collected_from counts k 0 (omega arith) (omega arith)

  -- no order is got for counts that are refused
  nothing_collected : (k at : ℕ) → is_none (counts_refusal n m) ≡ false → collected (asked P n m) (suc k) at ≡ []
  nothing_collected k at e = one_asked k at _ (refused_by_counts P n m at e)

  pub total_collected : (k : ℕ) → length (P n m) < k → length (collected (asked P n m) k 0) ≡ total P n m
  total_collected zero enough = absurd (let x : ⊥ = omega arith in x)
  total_collected (suc k) enough = go (counts_refusal n m) refl
    where
      go : (r : Refusal) → counts_refusal n m ≡ r → length (collected (asked P n m) (suc k) 0) ≡ total P n m
      go none e = ap length (collected_plan e (suc k) enough) ∙ sym (total_accepted P n m e)
      go (refuse number place) e =
          let not_none : is_none (counts_refusal n m) ≡ false = ap is_none e in
          ap length (nothing_collected k 0 not_none) ∙ sym (total_refused P n m not_none)
