-- Invariant: what the bids passed add.
use Rattle.sums.specs.Pools.{added_by}
use Rattle.sums.proofs.Summing.{SummedSoFar}
use Rattle.sums.proofs.pools.side_in.Given as goal

abbrev pub invariant-loop-i : goal.invariant-loop-i
invariant-loop-i l = SummedSoFar (added_by l.side l.p l.table l.amounts) l.total l.i
