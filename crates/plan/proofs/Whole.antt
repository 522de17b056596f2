-- The whole work on names, phase after phase of the table: from the inputs to the results (`work_done`).
use Rattle.std.specs.Prelude.{List, [], ◌∷◌}
use Rattle.std.proofs.Common.{refl}
use Rattle.definitions.specs.Book.{Book}
use Rattle.laws.specs.AcceptedBook.{Sound}
use Rattle.plan.specs.Orders.{State, run}
use Rattle.plan.proofs.Holds.{Holds, Step, then, phase_step, step_part}
use Rattle.plan.specs.Names.{Family, Bids, Capacities, Amounts, Flows, Prices, ZeroCells}
use Rattle.plan.proofs.Values.{cell_tables}
use Rattle.plan.proofs.Bids.{unit_phase, hundred_phase, shift_phase, top_phase, pool_number_phase, side_phase, size_phase, raised_whole_phase, raised_price_phase, double_phase, key_phase, next_phase, membership_phase, pool_size_phase}
use Rattle.plan.proofs.Cuts.{demand_phase_lem, cut_phase_lem}
use Rattle.plan.proofs.Ranks.{size_before_phase_lem, rank_before_phase, size_with_phase, rank_with_phase, use_phase, amount_phase}
use Rattle.plan.proofs.Lines.{placement_phase_lem, slack_phase_lem, flow_phase}
use Rattle.plan.proofs.Reaching.{slack_test_phase, reach_phase_lem}
use Rattle.plan.proofs.Prices.{margin_phase, pool_margin_phase_lem, best_margin_phase_lem, price_test_phase, pool_whole_phase_lem, price_phase}
use Rattle.plan.specs.Phased.{flat}
use Rattle.plan.specs.Table.{work}

-- what a sealed sheet holds
abbrev pub inputs : List Family
inputs = Bids ∷ Capacities ∷ ZeroCells ∷ []

-- what the work leaves on it
abbrev pub outputs : List Family
outputs = Bids ∷ Capacities ∷ Amounts ∷ Flows ∷ Prices ∷ []

module _ (B : Book) (sound : Sound B) where
  all_steps : Step (cell_tables B) inputs outputs (flat (work B.n B.m))
  unfolding work
  all_steps =
      step_part (cell_tables B) outputs
      (then (cell_tables B) (phase_step (cell_tables B) _ (unit_phase B sound) refl)
      (then (cell_tables B) (phase_step (cell_tables B) _ (hundred_phase B sound) refl)
      (then (cell_tables B) (phase_step (cell_tables B) _ (shift_phase B sound) refl)
      (then (cell_tables B) (phase_step (cell_tables B) _ (top_phase B sound) refl)
      (then (cell_tables B) (phase_step (cell_tables B) _ (pool_number_phase B sound) refl)
      (then (cell_tables B) (phase_step (cell_tables B) _ (side_phase B sound) refl)
      (then (cell_tables B) (phase_step (cell_tables B) _ (size_phase B sound) refl)
      (then (cell_tables B) (phase_step (cell_tables B) _ (raised_whole_phase B sound) refl)
      (then (cell_tables B) (phase_step (cell_tables B) _ (raised_price_phase B sound) refl)
      (then (cell_tables B) (phase_step (cell_tables B) _ (double_phase B sound) refl)
      (then (cell_tables B) (phase_step (cell_tables B) _ (key_phase B sound) refl)
      (then (cell_tables B) (phase_step (cell_tables B) _ (next_phase B sound) refl)
      (then (cell_tables B) (phase_step (cell_tables B) _ (membership_phase B sound) refl)
      (then (cell_tables B) (phase_step (cell_tables B) _ (pool_size_phase B sound) refl)
      (then (cell_tables B) (phase_step (cell_tables B) _ (demand_phase_lem B sound) refl)
      (then (cell_tables B) (phase_step (cell_tables B) _ (cut_phase_lem B sound) refl)
      (then (cell_tables B) (phase_step (cell_tables B) _ (size_before_phase_lem B sound) refl)
      (then (cell_tables B) (phase_step (cell_tables B) _ (rank_before_phase B sound) refl)
      (then (cell_tables B) (phase_step (cell_tables B) _ (size_with_phase B sound) refl)
      (then (cell_tables B) (phase_step (cell_tables B) _ (rank_with_phase B sound) refl)
      (then (cell_tables B) (phase_step (cell_tables B) _ (use_phase B sound) refl)
      (then (cell_tables B) (phase_step (cell_tables B) _ (amount_phase B sound) refl)
      (then (cell_tables B) (phase_step (cell_tables B) _ (placement_phase_lem B sound) refl)
      (then (cell_tables B) (phase_step (cell_tables B) _ (slack_phase_lem B sound) refl)
      (then (cell_tables B) (phase_step (cell_tables B) _ (slack_test_phase B sound) refl)
      (then (cell_tables B) (phase_step (cell_tables B) _ (reach_phase_lem B sound) refl)
      (then (cell_tables B) (phase_step (cell_tables B) _ (flow_phase B sound) refl)
      (then (cell_tables B) (phase_step (cell_tables B) _ (margin_phase B sound) refl)
      (then (cell_tables B) (phase_step (cell_tables B) _ (pool_margin_phase_lem B sound) refl)
      (then (cell_tables B) (phase_step (cell_tables B) _ (best_margin_phase_lem B sound) refl)
      (then (cell_tables B) (phase_step (cell_tables B) _ (price_test_phase B sound) refl)
      (then (cell_tables B) (phase_step (cell_tables B) _ (pool_whole_phase_lem B sound) refl)
      (phase_step (cell_tables B) _ (price_phase B sound) refl)))))))))))))))))))))))))))))))))
      refl

  pub work_done : (s : State) → Holds (cell_tables B) inputs s → Holds (cell_tables B) outputs (run (flat (work B.n B.m)) s)
  work_done = all_steps.done
