-- Each turn counts the place from the next stretch: the position stays, and lies before the end.
use Rattle.std.proofs.Common.{◌≡◌, ◌<◌, ◌-◌, length}
use Rattle.orders.specs.Stretches.{position}
use Rattle.orders.proofs.walk.settled.Given as goal

abbrev pub invariant-loop-at : goal.invariant-loop-at
invariant-loop-at l = (position l.sizes l.at ≡ position l.sizes l.initial.at) × (l.at.stretch < length l.sizes)

abbrev pub decreases-loop-at : goal.decreases-loop-at
decreases-loop-at l = length l.sizes - l.at.stretch
