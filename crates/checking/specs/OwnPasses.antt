-- "Whatever our own unit clears must receive a yes": the amounts and flows opened of any accepted book that was cleared pass (`own_passes`).
use Rattle.std.specs.Prelude.{ℕ, ◌+◌, ◌*◌, ◌<◌, ◌≡◌, refl, Bool, true, ◌&&◌, eqb, length, get_or, drop, ℤ, pos, List}
use Rattle.std.proofs.Common.{ap, ◌∙◌, length-drop, length-take-le, eq-eqb, arith, get_or-take, get_or-drop}
use Rattle.std.proofs.Math.Arith.{digits_lt}
use Rattle.definitions.specs.Limits.{cell_count}
use Rattle.definitions.specs.Arithmetic.{reading}
use Rattle.definitions.specs.Book.{Book}
use Rattle.definitions.specs.Sheet.{first_result, result_count, flow_cell}
use Rattle.definitions.specs.Machine.{cell}
use Rattle.definitions.specs.Answers.{none, is_none}
use Rattle.definitions.specs.Calls.{AcceptedBook, counts_refusal, length_refusal, tables_right, seal_refusal, open_refusal, opened_results, flow_place, amounts_of, flows_of, open_slice}
use Rattle.definitions.specs.Checks.{sent_refusal, check_refusal, Passes, Exactly}
use Rattle.definitions.specs.Clearing.{Clearing}
use Rattle.definitions.specs.Outcome.{result_of, plan_run, clear_sheet}
use Rattle.laws.specs.AcceptedBook.{Sound, accepted_sound}
use Rattle.laws.specs.Refusal.{first_left, first_both, unless_none}
use Rattle.theory.specs.Optimal.{best_optimal}
use Rattle.opening.specs.Openable.{opened_length}
use Rattle.opening.specs.Opened.{amount_reading, flow_reading}
use Rattle.opening.specs.Readings.{reading_at}
use Rattle.plan.specs.Plan.{plan}
use Rattle.clearing.specs.PlanClears.{plan_outcome}
use Rattle.clearing.specs.Opens.{plan_opens}
use Rattle.clearing.proofs.Demand3.{cleared_by_plan}

module _ (B : Book) (accepted : AcceptedBook B) where
  abbrev left : List ℕ
  left = plan_run plan B

  abbrev results : List ℤ
  results = opened_results B.n B.m left

  abbrev cleared : Clearing
  cleared = result_of B left

  sound : Sound B
  sound = accepted_sound B accepted

  count : length results ≡ result_count B.n B.m
  count = opened_length B.n B.m left (result_count B.n B.m) (plan_opens B accepted)

  result_at_lem : (k : ℕ) → k < result_count B.n B.m → get_or results k (pos 0) ≡ reading (cell left (first_result B.n B.m + k))
  unfolding opened_results
  result_at_lem k l = reading_at left (first_result B.n B.m) (result_count B.n B.m) k l

  amount_count : length (amounts_of B.n results) ≡ B.n
  amount_count = length-take-le B.n results (omega (arith, count))

  flow_count : length (flows_of B.n B.m results) ≡ B.m * B.m
  flow_count = length-take-le (B.m * B.m) (drop B.n results) (omega (arith, count, length-drop B.n results))

  lengths_right : length_refusal (tables_right B && (eqb (length (amounts_of B.n results)) B.n && eqb (length (flows_of B.n B.m results)) (B.m * B.m))) ≡ none
  lengths_right = rw (eq-eqb _ _ sound.bid_table, eq-eqb _ _ sound.capacity_table, eq-eqb _ _ amount_count, eq-eqb _ _ flow_count) refl

  results_pass : Passes B (amounts_of B.n results) (flows_of B.n B.m results)
  unfolding check_refusal sent_refusal seal_refusal
  results_pass =
      let outcome = plan_outcome B accepted in
      record {
        no_refusal = first_both (first_both (first_left (counts_refusal B.n B.m) _ accepted) lengths_right) accepted;
        clearing = cleared;
        sent = record {
          amounts_are = λ i l. get_or-take B.n results i (pos 0) l ∙ result_at_lem i (omega arith) ∙ amount_reading B accepted left outcome i l;
          flows_are = λ a b l r.
              let k : a * B.m + b < B.m * B.m = digits_lt l r in
              get_or-take (B.m * B.m) (drop B.n results) (a * B.m + b) (pos 0) k
              ∙ get_or-drop B.n results (a * B.m + b) (pos 0)
              ∙ result_at_lem (flow_place B.n B.m a b) (omega arith)
              ∙ ap (λ (c : ℕ). reading (cell left c)) (let e : first_result B.n B.m + flow_place B.n B.m a b ≡ flow_cell B.n B.m a b = omega arith in e)
              ∙ flow_reading B accepted left outcome a b l r;
        };
        optimal = best_optimal B accepted cleared outcome.best;
      }

  -- whatever the sheet lent to clearing and the slice lent to opening held
  pub own_passes : (lent : List ℕ) (out : List ℤ) → length lent ≡ cell_count → length out ≡ result_count B.n B.m
      → let opened = open_slice B.n B.m (clear_sheet plan B lent) out in Passes B (amounts_of B.n opened) (flows_of B.n B.m opened)
  unfolding open_slice plan_run
  own_passes lent out cells places = rw opened results_pass
    where
      opened : open_slice B.n B.m (clear_sheet plan B lent) out ≡ results
      opened =
          ap (λ (s : List ℕ). open_slice B.n B.m s out) ((cleared_by_plan B accepted).sheet lent cells)
          ∙ unless_none (open_refusal B.n B.m left (length out)) results out
          (ap is_none (ap (open_refusal B.n B.m left) places ∙ plan_opens B accepted))

-- so an answer that meets the contract of `check` is yes
pub own_yes : (B : Book) → AcceptedBook B → (lent : List ℕ) (out : List ℤ) → length lent ≡ cell_count → length out ≡ result_count B.n B.m
    → (answer : Bool)
    → let opened = open_slice B.n B.m (clear_sheet plan B lent) out in Exactly answer (Passes B (amounts_of B.n opened) (flows_of B.n B.m opened)) → answer ≡ true
own_yes B accepted lent out cells places answer exact = exact.meant (own_passes B accepted lent out cells places)
