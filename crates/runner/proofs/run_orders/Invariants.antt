-- Invariant: `Running`, of the orders that are left.
use Rattle.definitions.specs.Bytes.{parse}
use Rattle.runner.specs.Left.{left}
use Rattle.runner.proofs.Turns.{Running}
use Rattle.runner.proofs.run_orders.Given as goal

abbrev pub invariant-loop-order : goal.invariant-loop-order
invariant-loop-order l = record {
  can_next : (goal.iterator-loop-order).can_next l.order-iterator;
  is_finite : (goal.iterator-loop-order).is_finite l.order-iterator;
  running : Running (parse l.bytes) (left l.order-iterator) l.initial.sheet l.sheet l.count;
}
