-- `put_order` meets its contract: the kind and the target, then behind them the constant or the two cells.
use Rattle.std.proofs.Common.{ℕ, ◌≡◌, ◌++◌, List, cond, eqb, ap, sym, ◌∙◌, arith, length, length-append}
use Rattle.definitions.specs.Bytes.{number_bytes, order_bytes}
use Rattle.definitions.specs.Plan.{over}
use Rattle.codec.proofs.Stores.{head_bytes, whole_bytes, constant_bytes, cells_bytes, room_behind, both}
use Rattle.codec.proofs.put_order.Goals as goal
use Rattle.codec.proofs.put_order.Goals.{Then-p-eq0, Else-p-eq0}

pub put_two-size-requires : goal.put_two-size-requires
put_two-size-requires c =
    let p = c.from-p.result in
    omega (
      arith,
      ap length (whole_bytes c.args.order p c.from-p.ensures),
      length-append (head_bytes p) (cond (eqb p.kind 0) (number_bytes p.k) (number_bytes p.a ++ number_bytes p.b)),
      c.requires,
    )

-- the bytes of a constant, and of two cells
constant : (c : Then-p-eq0) → let p = c.from-p.result in order_bytes c.args.order ≡ head_bytes p ++ number_bytes p.k
constant c = constant_bytes c.args.order c.from-p.result c.from-p.ensures c.if-p-eq0.true

cells : (c : Else-p-eq0) → let p = c.from-p.result in order_bytes c.args.order ≡ head_bytes p ++ (number_bytes p.a ++ number_bytes p.b)
cells c = cells_bytes c.args.order c.from-p.result c.from-p.ensures c.if-p-eq0.false

pub put_number-requires : goal.put_number-requires
put_number-requires c =
    let two = c.put_two-size.ensures in
    room_behind c.args.out.now _ _ _ _ two.size two.bytes (omega (arith, ap length (constant (goal.at.put_number-requires c).Then-p-eq0), c.requires))

pub returns-then-p-eq0-clause-size : goal.returns-then-p-eq0-clause-size
returns-then-p-eq0-clause-size c =
    let p = c.from-p.result in
    omega (arith, ap length (constant (goal.at.returns-then-p-eq0-clause-size c).Then-p-eq0), c.put_two-size.ensures.size, c.put_number.ensures.size, length-append (head_bytes p) (number_bytes p.k))

pub returns-then-p-eq0-clause-bytes : goal.returns-then-p-eq0-clause-bytes
returns-then-p-eq0-clause-bytes c =
    let two = c.put_two-size.ensures in
    both c.args.out.now _ _ _ _ two.size two.bytes _ c.put_number.ensures.bytes
    ∙ ap (λ (l : List ℕ). over l c.args.out.now) (sym (constant (goal.at.returns-then-p-eq0-clause-bytes c).Then-p-eq0))

pub put_two-requires : goal.put_two-requires
put_two-requires c =
    let two = c.put_two-size.ensures in
    room_behind c.args.out.now _ _ _ _ two.size two.bytes (omega (arith, ap length (cells c), c.requires))

pub returns-clause-size : goal.returns-clause-size
returns-clause-size c =
    let p = c.from-p.result in
    omega (arith, ap length (cells (goal.at.returns-clause-size c).Else-p-eq0), c.put_two-size.ensures.size, c.put_two.ensures.size, length-append (head_bytes p) (number_bytes p.a ++ number_bytes p.b))

pub returns-clause-bytes : goal.returns-clause-bytes
returns-clause-bytes c =
    let two = c.put_two-size.ensures in
    both c.args.out.now _ _ _ _ two.size two.bytes _ c.put_two.ensures.bytes
    ∙ ap (λ (l : List ℕ). over l c.args.out.now) (sym (cells (goal.at.returns-clause-bytes c).Else-p-eq0))
