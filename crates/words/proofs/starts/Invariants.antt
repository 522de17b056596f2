-- Invariant: there is a place for each slice; each slice so far begins behind those before it, and the next one at `end`.
use Rattle.std.proofs.Common.{◌≡◌, ℕ, ◌<◌, Some, length, get_or}
use Rattle.words.specs.Words.{after_slices}
use Rattle.words.proofs.starts.Given as goal

abbrev pub invariant-loop-start : goal.invariant-loop-start
invariant-loop-start g l = record {
  places : length l.start-items ≡ g.row.N;
  behind : after_slices l.input l.at l.start-index ≡ Some l.end;
  starts : (k : ℕ) → k < l.start-index → after_slices l.input l.at k ≡ Some (get_or l.start-items k 0);
}
