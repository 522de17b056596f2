-- Invariant: i readings stand in `out`.
use Rattle.std.proofs.Common.{length}
use Rattle.laws.specs.Write.{WrittenSoFar}
use Rattle.opening.specs.Readings.{readings}
use Rattle.opening.proofs.open.Given as goal

abbrev pub invariant-loop-i : goal.invariant-loop-i
invariant-loop-i l = WrittenSoFar l.initial.out (readings l.sheet l.first (length l.initial.out)) l.out l.i
