-- The flows of the clearing that the cuts give are the first by rows.
use Rattle.std.proofs.Common.{◌∙◌}
use Rattle.definitions.specs.Book.{Book}
use Rattle.laws.specs.AcceptedBook.{Sound}
use Rattle.theory.specs.Balance.{feasible_same}
use Rattle.theory.specs.Slacks.{line_flow}
use Rattle.theory.specs.Flows.{flow_first}
use Rattle.theory.specs.Welfare.{turn, turn_same, clearing_feasible}
use Rattle.theory.specs.BookNetwork.{network_of, by_lines, network_sound, feasible_network}
use Rattle.theory.specs.FlowOrder.{FirstFlows}
use Rattle.theory.specs.CutClearing.{cut_used, cut_clearing, within_cuts, turned_back, cut_feasible}
use Rattle.theory.proofs.Dictionary.{no_later_flows}

module _ (B : Book) (ok : Sound B) where
  -- the flows are the first by rows
  pub cut_first_flows : FirstFlows B (cut_clearing B)
  cut_first_flows = record {
    feasible = cut_feasible B ok;
    first = λ d h e. no_later_flows B (network_sound B ok) (line_flow (network_of B) (cut_used B)) d.flow (λ k l b.
        flow_first (network_of B) (cut_used B) (within_cuts B ok) (by_lines B d.flow)
        (feasible_same (network_of B) (turn (network_of B) d.accepted) (cut_used B) (by_lines B d.flow)
        (λ i r. turn_same (network_of B) d.accepted (cut_clearing B).accepted i (e i r) ∙ turned_back B ok i r)
        (clearing_feasible (network_of B) d.accepted (by_lines B d.flow) (feasible_network B ok d h)))
        k l b);
  }
