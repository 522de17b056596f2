-- From an accepted book's sealed sheet the plan leaves the documents' outcome: the best clearing with permitted flows and prices (`plan_outcome`). So the
-- sheet that one run leaves by computation is an outcome (`example_outcome`).
use Rattle.std.specs.Prelude.{refl, List, ℕ}
use Rattle.std.proofs.Common.{sym, subst, ◌∙◌}
use Rattle.definitions.specs.Book.{Book}
use Rattle.definitions.specs.Sheet.{sealed_sheet}
use Rattle.definitions.specs.Clearing.{Best, Permitted}
use Rattle.definitions.specs.Machine.{run_of}
use Rattle.definitions.specs.Calls.{AcceptedBook, seal_refusal, bids_refusal, capacities_refusal, row_refusal, first_from}
use Rattle.definitions.specs.Outcome.{Outcome, result_of, plan_run}
use Rattle.laws.specs.AcceptedBook.{Sound, accepted_sound}
use Rattle.theory.specs.FlowOrder.{FirstFlows}
use Rattle.theory.proofs.ClosedBest.{closed_clearing_lem}
use Rattle.theory.proofs.PoolPrice.{closed_price_lem}
use Rattle.plan.specs.Plan.{plan}
use Rattle.plan.proofs.AnExample.{three_pools, three_pools_cleared, example_run}
use Rattle.plan.proofs.Cleared.{HoldsClearing, plan_clears}

module _ (B : Book) (accepted : AcceptedBook B) where
  sound : Sound B
  sound = accepted_sound B accepted

  abbrev left : List ℕ
  left = run_of (plan B.n B.m) (sealed_sheet B)

  cleared : HoldsClearing B left
  cleared = plan_clears B sound

  clearing : Best B (result_of B left) × Permitted B (result_of B left) × FirstFlows B (result_of B left)
  clearing = closed_clearing_lem B accepted (result_of B left) cleared.amount_cells cleared.flow_cells

  pub plan_outcome : Outcome B (sealed_sheet B) (plan_run plan B)
  unfolding plan_run
  plan_outcome = record {
    cells = cleared.length_kept;
    inputs = cleared.inputs_kept;
    best = clearing.0;
    permitted = clearing.1;
    prices = λ p l. cleared.price_cells_lem p l ∙ sym (closed_price_lem B accepted (result_of B left) clearing.0 p l).0;
    hundredths = λ p l. cleared.hundredths_cells p l ∙ sym (closed_price_lem B accepted (result_of B left) clearing.0 p l).1;
    presences = λ p l. cleared.presence_cells p l ∙ sym (closed_price_lem B accepted (result_of B left) clearing.0 p l).2;
    scratch = cleared.scratch_zero;
  }

  -- the flows that the plan leaves are the first by rows
  pub plan_first_flows : FirstFlows B (result_of B (plan_run plan B))
  unfolding plan_run
  plan_first_flows = clearing.2

pub three_pools_accepted : AcceptedBook three_pools
unfolding seal_refusal bids_refusal capacities_refusal row_refusal first_from
three_pools_accepted = refl

pub example_outcome : Outcome three_pools (sealed_sheet three_pools) three_pools_cleared
unfolding plan_run
example_outcome = subst (Outcome three_pools (sealed_sheet three_pools)) example_run (plan_outcome three_pools three_pools_accepted)
