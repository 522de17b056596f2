-- `sizes_of` meets its contract: each turn writes the size of one phase.
use Rattle.std.proofs.Common.{◌∙◌, arith, length-set}
use Rattle.orders.specs.Shaped.{size_is}
use Rattle.orders.specs.Tables.{more_sizes}
use Rattle.orders.proofs.tables.sizes_of.Goals as goal

pub loop-k-preserved : goal.loop-k-preserved
loop-k-preserved c =
    let a = c.args.counts in
    let l = c.loop-k in (
      length-set l.size-items l.k _ ∙ l.invariant.0,
      more_sizes a.n a.m l.size-items l.k _ (omega (arith, l.invariant.0)) l.invariant.1
          (record { is = c.size.ensures.0 ∙ size_is _ _ c.shape_of.ensures; small = c.size.ensures.1 }),
    )
