-- `write` meets its contract: each turn writes the order at one position, or finds no room for it.
use Rattle.std.proofs.Common.{ℕ, ◌+◌, ◌≤◌, ◌<◌, ◌≡◌, sym, ap, subst, ◌∙◌, arith, List, length, get_or}
use Rattle.std.proofs.lemmas.Bool.{leb-true, leb-false}
use Rattle.definitions.specs.declared.Order.{Order}
use Rattle.definitions.specs.declared.Order.TheVariants.{Constant}
use Rattle.definitions.specs.Bytes.{order_bytes}
use Rattle.codec.specs.Writes.{size_with_room, bytes_with_room, bytes_without_room}
use Rattle.plan.specs.Phased.{Has, has_here}
use Rattle.plan.specs.Plan.{plan}
use Rattle.columns.specs.Plans.{plan_by, plan_by_length, plan_by_entry}
use Rattle.orders.specs.Stretches.{from_start}
use Rattle.orders.specs.Steps.{plan_end}
use Rattle.orders.proofs.Filling.{begins, goes_on, at_end, no_room, ends}
use Rattle.orders.proofs.tables.Tables.write.Goals as goal
use Rattle.orders.proofs.tables.Tables.write.Goals.{Start, After-order-order, In-Some, In_default}

pub loop-next-init : goal.loop-next-init
loop-next-init c = (begins (plan_by c.args.by plan) _ _ _ _, from_start _ _)

pub settled-place-requires : goal.settled-place-requires
settled-place-requires c =
    let t = c.args.self.now in
    omega (arith, plan_end t.counts.n t.counts.m t.sizes (omega arith) t.phases, c.loop-next.invariant.1, c.loop-next-test.true, c.requires.total_value)

-- the plan is as long by columns as by rows
as_long : (s : Start) → let t = s.args.self.now.counts in s.args.total ≡ length (plan_by s.args.by plan t.n t.m)
as_long s = let t = s.args.self.now.counts in s.requires.total_value ∙ sym (plan_by_length plan t.n t.m s.args.by)

-- the order found is that of the plan
there : (c : After-order-order) → let t = c.args.self.now.counts in Has (plan_by c.args.by plan t.n t.m) c.loop-next.next c.order-order.result
there c =
    let t = c.args.self.now.counts in
    let P : List Order = plan_by c.args.by plan t.n t.m in
    let inside : c.loop-next.next < length (plan t.n t.m) = omega (arith, c.loop-next-test.true, c.requires.total_value) in
    let here = has_here P c.loop-next.next (Constant 0 0) (omega (arith, inside, plan_by_length plan t.n t.m c.args.by)) in
    let place = c.settled-place.ensures.same ∙ c.loop-next.invariant.1 in
    let found : c.order-order.result ≡ get_or P c.loop-next.next (Constant 0 0) =
    rw (c.order-order.ensures, c.order_within.ensures, place) (sym (plan_by_entry plan t.n t.m c.args.by c.loop-next.next inside)) in
    subst (λ (o : Order). Has P c.loop-next.next o) (sym found) here

-- no bytes were written, so there was no room for them
no_place : (c : In_default) → length c.loop-next.out < c.loop-next.bytes + length (order_bytes c.order-order.result)
no_place c = leb-false _ _ (sym c.in_default.ensures.room)

pub returns-in_default-clause-counts : goal.returns-in_default-clause-counts
returns-in_default-clause-counts c =
    let t = c.args.self.now.counts in
    let s = goal.at.returns-in_default-clause-counts c in
    let filled = c.loop-next.invariant.0 in
    (ends (plan_by c.args.by plan) t.n t.m c.args.at _ _ _ _ filled (no_room (plan_by c.args.by plan) t.n t.m c.args.at _ _ _ _ filled _ (there s.After-order-order) (no_place s.In_default))).0

pub returns-in_default-clause-slice : goal.returns-in_default-clause-slice
returns-in_default-clause-slice c =
    let t = c.args.self.now.counts in
    let s = goal.at.returns-in_default-clause-slice c in
    let filled = c.loop-next.invariant.0 in
    c.in_default.ensures.bytes
    ∙ bytes_without_room _ _ _ (no_place s.In_default)
    ∙ (ends (plan_by c.args.by plan) t.n t.m c.args.at _ _ _ _ filled (no_room (plan_by c.args.by plan) t.n t.m c.args.at _ _ _ _ filled _ (there s.After-order-order) (no_place s.In_default))).1

-- bytes were written, so there was room
room : (c : In-Some) → c.loop-next.bytes + length (order_bytes c.order-order.result) ≤ length c.loop-next.out
room c = leb-true _ _ (sym c.in-Some.ensures.room)

size : (c : In-Some) → c.in-Some.size ≡ length (order_bytes c.order-order.result)
size c = c.in-Some.ensures.size ∙ size_with_room _ _ _ (room c)

pub overflow_add-bytes : goal.overflow_add-bytes
overflow_add-bytes c = omega (arith, room c, size c)

pub loop-next-preserved : goal.loop-next-preserved
loop-next-preserved c =
    let loop = c.loop-next in
    let t = c.args.self.now.counts in
    let s = goal.at.loop-next-preserved c in (
      goes_on (plan_by c.args.by plan) t.n t.m c.args.at _ _ _ _ loop.invariant.0 _ _ _ (there s.After-order-order)
          (omega (arith, room s.In-Some, loop.invariant.0.long))
          (c.in-Some.ensures.bytes ∙ bytes_with_room _ _ _ (room s.In-Some))
          (ap (λ (k : ℕ). loop.bytes + k) (size s.In-Some)),
      omega (arith, c.settled-place.ensures.same, loop.invariant.1),
    )

pub returns-clause-counts : goal.returns-clause-counts
returns-clause-counts c =
    let t = c.args.self.now.counts in
    let s = goal.at.returns-clause-counts c in
    let filled = c.loop-next.invariant.0 in
    let last : c.args.total ≡ c.loop-next.next = omega (arith, c.loop-next-test.false, c.loop-next.auto.next-end) in
    rw last (ends (plan_by c.args.by plan) t.n t.m c.args.at _ _ _ _ filled (at_end (plan_by c.args.by plan) t.n t.m c.args.at _ _ _ _ filled (omega (arith, c.loop-next-test.false, as_long s.Start)))).0

pub returns-clause-slice : goal.returns-clause-slice
returns-clause-slice c =
    let t = c.args.self.now.counts in
    let s = goal.at.returns-clause-slice c in
    let filled = c.loop-next.invariant.0 in
    (ends (plan_by c.args.by plan) t.n t.m c.args.at _ _ _ _ filled (at_end (plan_by c.args.by plan) t.n t.m c.args.at _ _ _ _ filled (omega (arith, c.loop-next-test.false, as_long s.Start)))).1
