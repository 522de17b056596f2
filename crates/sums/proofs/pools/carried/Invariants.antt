-- Invariant: what the lines passed carry.
use Rattle.std.proofs.Common.{ℕ, ◌+◌, ◌*◌, List, ℤ, pos, nat_abs, get_or}
use Rattle.sums.proofs.Summing.{SummedSoFar}
use Rattle.sums.proofs.pools.carried.Given as goal

-- what line k carries
abbrev added : (first step : ℕ) → List ℤ → ℕ → ℕ
added first step flows k = nat_abs (get_or flows (k * step + first) (pos 0))

abbrev pub invariant-loop-k : goal.invariant-loop-k
invariant-loop-k l = SummedSoFar (added l.first l.step l.flows) l.total l.k
