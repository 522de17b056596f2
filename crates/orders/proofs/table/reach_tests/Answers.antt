-- The second part is the last, whose blocks have one order.
use Rattle.std.proofs.Common.{refl}
use Rattle.plan.specs.Table.{reach_phase}
use Rattle.orders.specs.Named.{made}
use Rattle.orders.specs.Shaped.{one_of_second}
use Rattle.orders.proofs.table.reach_tests.Goals as goal

pub returns : goal.returns
unfolding made
returns c =
    let k = c.args.counts in
    one_of_second (reach_phase k.n k.m) c.args.s _ c.if-s-eq0.false c.requires refl refl c.reach_turn.ensures
