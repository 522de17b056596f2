-- However the reads go on, there are reads from the start that lead to the same.
use Rattle.std.specs.Prelude.{◌-◌}
use Rattle.settle.specs.Turns.{read_limit}
use Rattle.settle.specs.Whole.{SoFar}
use Rattle.settle.proofs.read_text.Given as goal

abbrev pub invariant-loop : goal.invariant-loop
invariant-loop g l = SoFar l.fn.numbers l.reader l.numbers (read_limit - l.counter)
