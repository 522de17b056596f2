-- A feasible clearing is optimal exactly if its welfare is that of a best one (`optimal_by_welfare`, `welfare_of_optimal`).
use Rattle.std.specs.Prelude.{◌≡◌, ℤ, ◌≤ℤ◌}
use Rattle.std.proofs.Common.{sym, subst}
use Rattle.definitions.specs.Book.{Book}
use Rattle.definitions.specs.Calls.{AcceptedBook}
use Rattle.definitions.specs.Checks.{Optimal}
use Rattle.definitions.specs.Clearing.{Clearing, Feasible, Best, welfare}
use Rattle.theory.specs.BestClearing.{best_welfare}
use Rattle.theory.specs.Integers.{le_antisymmetric}

module _ (B : Book) (accepted : AcceptedBook B) (best : Clearing) (is_best : Best B best) where
  pub best_optimal : Optimal B best
  best_optimal = record { feasible = is_best.feasible; none_greater = best_welfare B accepted best is_best }

  pub optimal_by_welfare : (c : Clearing) → Feasible B c → welfare B c.accepted ≡ welfare B best.accepted → Optimal B c
  optimal_by_welfare c f e = record {
    feasible = f;
    none_greater = λ d g. subst (λ (z : ℤ). welfare B d.accepted ≤ℤ z) (sym e) (best_welfare B accepted best is_best d g);
  }

  pub welfare_of_optimal : (c : Clearing) → Optimal B c → welfare B c.accepted ≡ welfare B best.accepted
  welfare_of_optimal c o = le_antisymmetric _ _ (best_welfare B accepted best is_best c o.feasible) (o.none_greater best is_best.feasible)
