-- Invariant: the first i entries are copied.
use Rattle.std.proofs.Common.{◌≡◌, ℕ, ◌<◌, get_or}
use Rattle.words.specs.Words.{entry_at}
use Rattle.words.proofs.copy.Given as goal

abbrev pub invariant-loop-i : goal.invariant-loop-i
invariant-loop-i g l = (k : ℕ) (z : g.row.T.Denot) → k < l.i → get_or l.places k z ≡ g.T.FromWord.of_word (entry_at l.input l.at k)
