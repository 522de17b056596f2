-- What the unit accepts of a book read with hundredths 0 is what every best clearing accepted (`cleared_as_before`).
use Rattle.std.specs.Prelude.{ℕ, ◌<◌, ◌≡◌}
use Rattle.definitions.specs.Sheet.{amount_cell}
use Rattle.definitions.specs.Machine.{cell}
use Rattle.definitions.specs.Outcome.{result_of, plan_run}
use Rattle.plan.specs.Plan.{plan}
use Rattle.clearing.specs.PlanClears.{plan_outcome}
use Rattle.earlier.specs.Earlier as earlier
use Rattle.earlier.specs.Widened.{widened_book}
use Rattle.earlier.proofs.AsBefore.{still_accepted, as_before}

-- in the cells of the accepted amounts, after the plan's run from the sealed sheet
pub cleared_as_before : (B : earlier.Book) → earlier.AcceptedBook B → (c : earlier.Clearing) → earlier.Best B c → (i : ℕ) → i < B.n
    → cell (plan_run plan (widened_book B)) (amount_cell B.n B.m i) ≡ c.accepted i
cleared_as_before B h c b i l =
    let outcome = plan_outcome (widened_book B) (still_accepted B h) in
    (as_before B).amounts h c b (result_of (widened_book B) (plan_run plan (widened_book B))) outcome.best i l
