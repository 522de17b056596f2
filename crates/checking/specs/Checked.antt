-- What the code tests of numbers that are not refused is what yes says (`answer_exact`).
use Rattle.std.specs.Prelude.{◌≡◌, Bool, true, ◌&&◌, List, map, length, ℤ, pos, nat_abs}
use Rattle.std.proofs.Common.{sym, ◌∙◌, arith}
use Rattle.std.proofs.lemmas.List.{length-map}
use Rattle.std.proofs.Math.ListN.{get_or-map}
use Rattle.definitions.specs.Limits.{cell_count}
use Rattle.definitions.specs.Arithmetic.{eq_z}
use Rattle.definitions.specs.Book.{Book}
use Rattle.definitions.specs.Answers.{none, is_none}
use Rattle.definitions.specs.Calls.{AcceptedBook, seal_refusal}
use Rattle.definitions.specs.Checks.{clearing_of, sent_feasible, sent_refusal, check_refusal, Passes, Exactly}
use Rattle.definitions.specs.Clearing.{Clearing, Feasible, Best, welfare}
use Rattle.definitions.specs.Outcome.{result_of, plan_run, clear_welfare}
use Rattle.laws.specs.AcceptedBook.{Sound, accepted_sound}
use Rattle.laws.specs.Refusal.{first_left, first_right}
use Rattle.laws.specs.SignedTests.{eq_z_true, eq_z_refl}
use Rattle.std.specs.Cmp.{first_so, second_so}
use Rattle.theory.specs.FeasibleNumbers.{numbers_feasible, feasible_numbers_lem, same_amounts}
use Rattle.theory.specs.Optimal.{optimal_by_welfare, welfare_of_optimal}
use Rattle.laws.specs.SameAmounts.{welfare_same}
use Rattle.sums.specs.SummedWelfare.{summed, summed_is, welfare_over_bids}
use Rattle.feasible.specs.Tests.{sent_sizes}
use Rattle.plan.specs.Plan.{plan}
use Rattle.clearing.specs.PlanClears.{plan_outcome}
use Rattle.clearing.proofs.Demand3.{cleared_by_plan}

-- the numbers sent are a feasible clearing, and its welfare is the one that clearing gives
unfoldable pub found_optimal : Book → (amounts flows : List ℤ) → Bool
found_optimal B amounts flows =
    sent_feasible B amounts flows && eq_z (summed welfare B.bids (map nat_abs amounts)) (clear_welfare plan B cell_count)

module _ (B : Book) (amounts flows : List ℤ) (passed : check_refusal B (length amounts) (length flows) ≡ none) where
  sent : sent_refusal B (length amounts) (length flows) ≡ none
  unfolding check_refusal
  sent = first_left (sent_refusal B (length amounts) (length flows)) (seal_refusal B cell_count) passed

  accepted : AcceptedBook B
  unfolding check_refusal
  accepted = first_right (sent_refusal B (length amounts) (length flows)) (seal_refusal B cell_count) passed

  abbrev given : Clearing
  given = clearing_of B.m amounts flows

  -- the best clearing that the plan leaves, whose welfare clearing gives
  abbrev best : Clearing
  best = result_of B (plan_run plan B)

  is_best : Best B best
  is_best = (plan_outcome B accepted).best

  cleared : clear_welfare plan B cell_count ≡ welfare B best.accepted
  cleared = (cleared_by_plan B accepted).welfare_given best is_best

  -- the sum of a feasible clearing's welfare is formula (1)
  sent_welfare : Feasible B given → summed welfare B.bids (map nat_abs amounts) ≡ welfare B given.accepted
  sent_welfare f =
      let sound : Sound B = accepted_sound B accepted in
      summed_is welfare_over_bids B sound.bids sound.bid_table (map nat_abs amounts) given.accepted
      (length-map amounts nat_abs ∙ (sent_sizes B (length amounts) (length flows) sent).amount_count)
      (λ i l. get_or-map nat_abs amounts i (pos 0))
      (λ i l. omega (arith, f.amounts i l, sound.size_small i l))

  optimal_passes : found_optimal B amounts flows ≡ true → Passes B amounts flows
  unfolding found_optimal sent_feasible
  optimal_passes e =
      let tested = first_so (sent_feasible B amounts flows) _ e in
      let found = numbers_feasible B amounts flows (second_so (is_none (sent_refusal B (length amounts) (length flows))) _ tested) in
      let same : summed welfare B.bids (map nat_abs amounts) ≡ clear_welfare plan B cell_count = eq_z_true _ _ (second_so (sent_feasible B amounts flows) _ e) in
      record {
        no_refusal = passed;
        clearing = given;
        sent = found.0;
        optimal = optimal_by_welfare B accepted best is_best given found.1 (sym (sent_welfare found.1) ∙ same ∙ cleared);
      }

  passes_optimal : Passes B amounts flows → found_optimal B amounts flows ≡ true
  unfolding found_optimal sent_feasible
  passes_optimal p =
      let c : Clearing = p.clearing in
      let feasible = feasible_numbers_lem B amounts flows c p.sent p.optimal.feasible in
      let same : summed welfare B.bids (map nat_abs amounts) ≡ clear_welfare plan B cell_count
      = sent_welfare (numbers_feasible B amounts flows feasible).1
      ∙ sym (welfare_same B c.accepted given.accepted (same_amounts B amounts flows c p.sent))
      ∙ welfare_of_optimal B accepted best is_best c p.optimal
      ∙ sym cleared in
      rw (sent, feasible, same) (eq_z_refl (clear_welfare plan B cell_count))

  pub answer_exact : (answer : Bool) → answer ≡ found_optimal B amounts flows → Exactly answer (Passes B amounts flows)
  answer_exact answer e = record { said = λ s. optimal_passes (sym e ∙ s); meant = λ p. e ∙ passes_optimal p }
