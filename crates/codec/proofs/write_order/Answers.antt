-- `write_order` meets its contract: the two tests find room for the order's bytes, without a sum that could wrap.
use Rattle.std.proofs.Common.{◌+◌, ◌<◌, ◌≤◌, refl, sym, ap, ◌∙◌, arith, append_assoc, length, drop-drop}
use Rattle.definitions.specs.Bytes.{order_bytes}
use Rattle.codec.specs.Written.{size_answer}
use Rattle.codec.specs.Writes.{size_with_room, bytes_with_room, size_without_room, bytes_without_room}
use Rattle.codec.proofs.write_order.Goals as goal
use Rattle.codec.proofs.write_order.Goals.{In_err-out, Then-room-order_size, Else-room-order_size}

-- an offset behind the end, a tail that is shorter than the order's bytes, and one that isn't
behind_end : (c : In_err-out) → length c.args.out.now < c.args.at + length (order_bytes c.args.order)
behind_end c = omega (arith, c.in_err-out.ensures.cases)

no_room : (c : Then-room-order_size) → length c.args.out.now < c.args.at + length (order_bytes c.args.order)
no_room c = omega (arith, c.in_ok-out.ensures.cases, c.if-room-order_size.true, c.order_size.ensures)

room : (c : Else-room-order_size) → c.args.at + length (order_bytes c.args.order) ≤ length c.args.out.now
room c = omega (arith, c.in_ok-out.ensures.cases, c.if-room-order_size.false, c.order_size.ensures)

pub returns-in_err-out-clause-size : goal.returns-in_err-out-clause-size
returns-in_err-out-clause-size c =
    let a = c.args in
    ap size_answer c.from_residual.ensures ∙ sym (size_without_room a.out.now a.at a.order (behind_end (goal.at.returns-in_err-out-clause-size c).In_err-out))

pub returns-in_err-out-clause-bytes : goal.returns-in_err-out-clause-bytes
returns-in_err-out-clause-bytes c =
    let a = c.args in
    sym (bytes_without_room a.out.now a.at a.order (behind_end (goal.at.returns-in_err-out-clause-bytes c).In_err-out))

pub returns-then-room-order_size-clause-size : goal.returns-then-room-order_size-clause-size
returns-then-room-order_size-clause-size c = sym (size_without_room c.args.out.now c.args.at c.args.order (no_room (goal.at.returns-then-room-order_size-clause-size c).Then-room-order_size))

pub returns-then-room-order_size-clause-bytes : goal.returns-then-room-order_size-clause-bytes
returns-then-room-order_size-clause-bytes c =
    let a = c.args in
    sym c.in_ok-out.ensures.cases.0
    ∙ sym (bytes_without_room a.out.now a.at a.order (no_room (goal.at.returns-then-room-order_size-clause-bytes c).Then-room-order_size))

pub returns-clause-size : goal.returns-clause-size
returns-clause-size c =
    let a = c.args in
    c.put_order.ensures.size ∙ sym (size_with_room a.out.now a.at a.order (room (goal.at.returns-clause-size c).Else-room-order_size))

pub returns-clause-bytes : goal.returns-clause-bytes
returns-clause-bytes c =
    let a = c.args in
    let parts = c.in_ok-out.ensures.cases in
    rw (c.put_order.ensures.bytes, parts.2, parts.3, drop-drop, append_assoc) refl ∙ sym (bytes_with_room a.out.now a.at a.order (room (goal.at.returns-clause-bytes c).Else-room-order_size))
