-- Invariant: i sizes stand in `sizes`.
use Rattle.std.proofs.Common.{map, nat_abs}
use Rattle.laws.specs.Write.{WrittenSoFar}
use Rattle.sums.proofs.values.write_sizes.Given as goal

abbrev pub invariant-loop-i : goal.invariant-loop-i
invariant-loop-i l = WrittenSoFar l.initial.sizes (map nat_abs l.numbers) l.sizes l.i
