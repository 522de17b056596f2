-- `codec::order_size` meets its contract: the sizes of the order's numbers, added.
use Rattle.std.proofs.Common.{◌++◌, ap, arith, length, length-append}
use Rattle.definitions.specs.Bytes.{number_bytes}
use Rattle.codec.proofs.Stores.{head_bytes, constant_bytes, cells_bytes}
use Rattle.codec.proofs.order_size.Goals as goal

pub returns-then-p-eq0 : goal.returns-then-p-eq0
returns-then-p-eq0 c =
    let p = c.from-p.result in
    omega (
      arith,
      ap length (constant_bytes c.args.order p c.from-p.ensures c.if-p-eq0.true),
      length-append (head_bytes p) (number_bytes p.k),
      length-append (number_bytes p.kind) (number_bytes p.d),
      c.number_size.ensures.0,
      c.number_size-2.ensures.0,
      c.number_size-then-p-eq0.ensures.0,
    )

pub returns : goal.returns
returns c =
    let p = c.from-p.result in
    omega (
      arith,
      ap length (cells_bytes c.args.order p c.from-p.ensures c.if-p-eq0.false),
      length-append (head_bytes p) (number_bytes p.a ++ number_bytes p.b),
      length-append (number_bytes p.kind) (number_bytes p.d),
      length-append (number_bytes p.a) (number_bytes p.b),
      c.number_size.ensures.0,
      c.number_size-2.ensures.0,
      c.number_size-3.ensures.0,
      c.number_size-4.ensures.0,
    )
