-- The order over names is the plan's, so that each of its names has a cell.
use Rattle.orders.specs.Limits.{limited}
use Rattle.orders.specs.Shaped.{order_placed}
use Rattle.orders.proofs.tables.Tables.order.Goals as goal

pub numbered-requires : goal.numbered-requires
numbered-requires c =
    let t = c.args.self.now.counts in
    rw c.order_of.ensures (order_placed t.n t.m c.args.k c.args.s (limited t) c.requires.k_lt_phase_count c.requires.in_phase)
