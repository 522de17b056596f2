-- What was read so far is within the bytes, of which there stay as many. The measure is the room that is left.
use Rattle.std.proofs.Common.{length, ◌-◌, ◌≡◌, ◌≤◌}
use Rattle.gathering.proofs.gather.Given as goal

abbrev pub invariant-loop-size : goal.invariant-loop-size
invariant-loop-size g l = (l.size ≤ length l.bytes) × (length l.bytes ≡ length l.initial.bytes)

abbrev pub decreases-loop-size : goal.decreases-loop-size
decreases-loop-size g l = length l.initial.bytes - l.size
