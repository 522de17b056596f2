-- Invariant: the total is the running sum after the bids passed, and that sum is bounded.
use Rattle.std.proofs.Common.{◌≡◌, ◌+◌, ◌*◌, ◌≤◌, nat_abs}
use Rattle.sums.specs.Sides.{sum_of_side, value_limit}
use Rattle.sums.proofs.values.add_side.Given as goal

abbrev pub invariant-loop-i : goal.invariant-loop-i
invariant-loop-i l = record {
  sum : l.total ≡ sum_of_side l.side l.table l.accepted l.i;
  small : nat_abs (sum_of_side l.side l.table l.accepted l.i) ≤ nat_abs l.start + l.i * value_limit;
}
