-- The sheet that clearing leaves for an accepted book is a sheet, and opening does not refuse it (`plan_opens`).
use Rattle.std.specs.Prelude.{◌≡◌, length, refl}
use Rattle.std.proofs.Common.{eq-eqb}
use Rattle.definitions.specs.Limits.{cell_count}
use Rattle.definitions.specs.Book.{Book}
use Rattle.definitions.specs.Sheet.{sealed_sheet, result_count}
use Rattle.definitions.specs.Machine.{IsSheet}
use Rattle.definitions.specs.Answers.{none}
use Rattle.definitions.specs.Calls.{AcceptedBook, seal_refusal, counts_refusal, open_refusal}
use Rattle.definitions.specs.Outcome.{plan_run}
use Rattle.laws.specs.Refusal.{first_left}
use Rattle.laws.specs.AcceptedBook.{Sound, accepted_sound}
use Rattle.judging.specs.Cells.{sheet_accepted}
use Rattle.machine.specs.Run.{run_sheet_lem}
use Rattle.plan.specs.Plan.{plan}
use Rattle.plan.proofs.PlanOrders.{plan_orders}
use Rattle.plan.proofs.SealedSheet.{sealed_is_sheet}

module _ (B : Book) (accepted : AcceptedBook B) where
  pub run_is_sheet : IsSheet (plan_run plan B)
  unfolding plan_run
  run_is_sheet =
      let sound : Sound B = accepted_sound B accepted in
      run_sheet_lem (plan B.n B.m) (sealed_sheet B) (sealed_is_sheet B sound)
      (plan_orders B.n B.m sound.bids sound.pools)

  pub plan_opens : open_refusal B.n B.m (plan_run plan B) (result_count B.n B.m) ≡ none
  unfolding open_refusal seal_refusal
  plan_opens =
      let sheet = run_is_sheet in
      let counts : counts_refusal B.n B.m ≡ none = first_left (counts_refusal B.n B.m) _ accepted in
      rw (
        counts,
        eq-eqb (length (plan_run plan B)) cell_count sheet.cells,
        eq-eqb (result_count B.n B.m) (result_count B.n B.m) refl,
      ) (sheet_accepted (plan_run plan B) sheet)
