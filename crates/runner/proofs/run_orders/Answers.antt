-- `run_orders` meets its contract: each turn keeps `Running`.
use Rattle.std.proofs.Common.{◌≡◌, ap, ◌∙◌, arith, length}
use Rattle.definitions.specs.Answers.{none, stated}
use Rattle.definitions.specs.Bytes.{Parsed, parse, one_more}
use Rattle.codec.specs.PlanBytes.{parsed_well_formed, orders_at_most}
use Rattle.machine.specs.Run.{stepped_is}
use Rattle.runner.specs.Left.{left}
use Rattle.runner.proofs.Turns.{begin, onward, left_cells}
use Rattle.runner.proofs.run_orders.Goals as goal
use Rattle.runner.proofs.run_orders.Goals.{In_ok-order}

pub loop-order-init : goal.loop-order-init
loop-order-init c = record {
  can_next = tt;
  is_finite = tt;
  running = begin (parse c.args.bytes.now) (left c.into_iter-order-iterator.result) c.args.sheet.now
      (ap left c.into_iter-order-iterator.ensures.into_iter_gives ∙ c.of-order-items.ensures) (parsed_well_formed c.args.bytes.now) c.requires;
}

-- the order that was read, and those that are left behind it
read : (c : In_ok-order) → left c.loop-order.order-iterator ≡ one_more c.in_ok-order.field-0 (left c.next.new.self)
read c = rw c.in_ok-order.was at c.in-Some.ensures.steps

pub returns-in_err-order-clause-cells : goal.returns-in_err-order-clause-cells
returns-in_err-order-clause-cells c =
    let l = c.loop-order in
    left_cells (parse c.args.bytes.now) (left l.order-iterator) c.args.sheet.now l.sheet l.count l.invariant.running
    (stated c.in_err-order.field-0.0) (rw c.in_err-order.was at c.in-Some.ensures.steps)

pub overflow_add-count : goal.overflow_add-count
overflow_add-count c =
    let r = c.loop-order.invariant.running in
    omega (arith, r.orders, ap (λ (p : Parsed). length p.orders) (read (goal.at.overflow_add-count c).In_ok-order), orders_at_most c.args.bytes.now, c.well_formed)

pub loop-order-preserved : goal.loop-order-preserved
loop-order-preserved c =
    let l = c.loop-order in
    let order = c.in_ok-order.field-0 in
    record {
      can_next = tt;
      is_finite = tt;
      running =
          onward (parse c.args.bytes.now) (left l.order-iterator) c.args.sheet.now l.sheet l.count l.invariant.running order
          (left c.next.new.self) (read (goal.at.loop-order-preserved c).In_ok-order) c.step.new.sheet
          (λ w. c.step.ensures ∙ stepped_is l.sheet order l.invariant.running.is_sheet w);
    }

pub returns-clause-cells : goal.returns-clause-cells
returns-clause-cells c =
    let l = c.loop-order in
    left_cells (parse c.args.bytes.now) (left l.order-iterator) c.args.sheet.now l.sheet l.count l.invariant.running none c.in-None.ensures.steps
