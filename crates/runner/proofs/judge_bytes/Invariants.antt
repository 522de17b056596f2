-- Invariant: what is left decides.
use Rattle.std.specs.Prelude.{◌≡◌}
use Rattle.definitions.specs.Bytes.{parse}
use Rattle.runner.specs.Left.{left}
use Rattle.runner.proofs.judge_bytes.Given as goal

abbrev pub invariant-loop-order : goal.invariant-loop-order
invariant-loop-order l = record {
  can_next : (goal.iterator-loop-order).can_next l.order-iterator;
  is_finite : (goal.iterator-loop-order).is_finite l.order-iterator;
  decides : (parse l.bytes).refusal ≡ (left l.order-iterator).refusal;
}
