-- Invariant: the first i residues are written.
use Rattle.std.proofs.Common.{map}
use Rattle.definitions.specs.Arithmetic.{residue}
use Rattle.laws.specs.Write.{WrittenSoFar}
use Rattle.sealing.proofs.write_residues.Given as goal

abbrev pub invariant-loop-i : goal.invariant-loop-i
invariant-loop-i l = WrittenSoFar l.initial.cells (map residue l.numbers) l.cells l.i
