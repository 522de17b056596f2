-- Invariant: what is asked of all words is what is asked of those left.
use Rattle.std.proofs.Common.{◌≡◌, ◌-◌}
use Rattle.words.specs.Words.{are_bytes}
use Rattle.words.proofs.are_bytes.Given as goal

abbrev pub invariant-loop-k : goal.invariant-loop-k
invariant-loop-k l = are_bytes l.input l.from (l.to - l.from) ≡ are_bytes l.input l.k (l.to - l.k)
