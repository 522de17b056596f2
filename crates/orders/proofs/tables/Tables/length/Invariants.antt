-- The sizes of the phases so far are added.
use Rattle.orders.specs.Steps.{Counted}
use Rattle.orders.proofs.tables.Tables.length.Given as goal

abbrev pub invariant-loop-size : goal.invariant-loop-size
invariant-loop-size l = Counted l.self.sizes l.length l.size-index
