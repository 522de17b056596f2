-- What clearing knows after sealing: a refused book leaves everything as defined for a refusal; an accepted one is sealed, and after its plan's run the amounts
-- are within limits.
use Rattle.std.proofs.Common.{ℕ, ◌≡◌, sym, ap, subst, ◌∙◌, false, List, arith, length, ℤ, pos}
use Rattle.definitions.specs.Book.{Book}
use Rattle.definitions.specs.Sheet.{sealed_sheet}
use Rattle.definitions.specs.Machine.{IsSheet, run_of}
use Rattle.definitions.specs.Answers.{Refusal, none, unless, is_none}
use Rattle.definitions.specs.Calls.{AcceptedBook, seal_refusal, seal_sheet, counts_refusal}
use Rattle.definitions.specs.Outcome.{result_of, plan_run, clear_sheet, clear_count}
use Rattle.laws.specs.Refusal.{unless_refused, first_left}
use Rattle.laws.specs.Sizes.{accepted_sizes}
use Rattle.laws.specs.AcceptedBook.{Sound, accepted_sound}
use Rattle.plan.specs.Plan.{plan}
use Rattle.clearing.specs.PlanClears.{plan_outcome}
use Rattle.orders.specs.Runs.{stepped_plan, stepped_plan_is}
use Rattle.clearing.specs.Amounts.{AmountsWithin}
use Rattle.plan.proofs.SealedSheet.{sealed_is_sheet}

module _ (B : Book) (lent : List ℕ) where
  -- ---- refused

  module _ (refused : is_none (seal_refusal B (length lent)) ≡ false) where
    pub refused_count : 0 ≡ clear_count plan B (length lent)
    unfolding clear_count
    refused_count = sym (unless_refused (seal_refusal B (length lent)) (length (plan B.n B.m)) 0 refused)

    -- the welfare, and that of the sales
    pub refused_sum : (sum : Book → (ℕ → ℕ) → ℤ) → pos 0 ≡ unless (seal_refusal B (length lent)) (sum B (result_of B (plan_run plan B)).accepted) (pos 0)
    refused_sum sum = sym (unless_refused (seal_refusal B (length lent)) (sum B (result_of B (plan_run plan B)).accepted) (pos 0) refused)

    pub refused_sheet : seal_sheet B lent ≡ clear_sheet plan B lent
    unfolding seal_sheet clear_sheet
    refused_sheet =
        unless_refused (seal_refusal B (length lent)) (sealed_sheet B) lent refused
        ∙ sym (unless_refused (seal_refusal B (length lent)) (plan_run plan B) lent refused)

  -- ---- accepted

  module _ (accepted : seal_refusal B (length lent) ≡ none) where
    given : {X : Type 0} (a b : X) → unless (seal_refusal B (length lent)) a b ≡ a
    given a b = ap (λ (r : Refusal). unless r a b) accepted

    pub book_accepted : AcceptedBook B
    book_accepted = sym (ap (seal_refusal B) (accepted_sizes B (length lent) accepted).lengths.sheet) ∙ accepted

    pub counts_pass : counts_refusal B.n B.m ≡ none
    unfolding seal_refusal
    counts_pass = first_left (counts_refusal B.n B.m) _ accepted

    pub sheet_sealed : seal_sheet B lent ≡ sealed_sheet B
    unfolding seal_sheet
    sheet_sealed = given (sealed_sheet B) lent

    pub count_given : length (plan B.n B.m) ≡ clear_count plan B (length lent)
    unfolding clear_count
    count_given = sym (given (length (plan B.n B.m)) 0)

    pub sum_given : (sum : Book → (ℕ → ℕ) → ℤ) → let left = sum B (result_of B (plan_run plan B)).accepted in left ≡ unless (seal_refusal B (length lent)) left (pos 0)
    sum_given sum = sym (given (sum B (result_of B (plan_run plan B)).accepted) (pos 0))

    pub sheet_given : plan_run plan B ≡ clear_sheet plan B lent
    unfolding clear_sheet
    sheet_given = sym (given (plan_run plan B) lent)

    -- no more is accepted than a bid's size
    pub amounts_within_lem : AmountsWithin B.n B.m B.bids (plan_run plan B)
    amounts_within_lem =
        let sound : Sound B = accepted_sound B book_accepted in
        let outcome = plan_outcome B book_accepted in
        record {
          few_bids = sound.bids;
          few_pools = sound.pools;
          table = sound.bid_table;
          cells = outcome.cells;
          amounts = λ i l. omega (arith, outcome.best.feasible.amounts i l, sound.size_small i l);
        }

    -- the sheet that sealing left, and what the plan's run made of it
    sealed_left : (s : List ℕ) → s ≡ seal_sheet B lent → IsSheet s
    sealed_left s e = subst IsSheet (sym (e ∙ sheet_sealed)) (sealed_is_sheet B (accepted_sound B book_accepted))

    pub run_left : (s t : List ℕ) → s ≡ seal_sheet B lent → t ≡ stepped_plan plan B.n B.m s → t ≡ plan_run plan B
    unfolding plan_run
    run_left s t e q = q ∙ stepped_plan_is B.n B.m s counts_pass (sealed_left s e) ∙ ap (run_of (plan B.n B.m)) (e ∙ sheet_sealed)
