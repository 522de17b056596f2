-- The last part is the fourth, whose blocks have one order.
use Rattle.std.proofs.Common.{refl, arith}
use Rattle.plan.specs.Table.{line_phase}
use Rattle.orders.specs.Named.{made}
use Rattle.orders.specs.Shaped.{one_of}
use Rattle.orders.proofs.table.lines.Goals as goal

pub returns-in_default : goal.returns-in_default
unfolding made
returns-in_default c =
    let k = c.args.counts in
    one_of (line_phase k.n k.m) c.args.s 3 _ (omega (arith, c.requires.part)) c.requires refl c.take_turn.ensures
