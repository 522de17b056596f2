-- Invariant: the numbers passed are within their limits.
use Rattle.std.proofs.Common.{◌≡◌, true}
use Rattle.definitions.specs.Arithmetic.{all_to}
use Rattle.feasible.specs.Tests.{within_size}
use Rattle.feasible.proofs.are_within.Given as goal

abbrev pub invariant-loop-k : goal.invariant-loop-k
invariant-loop-k l = all_to l.k (within_size l.numbers l.limits l.first l.step) ≡ true
