-- The first f families are laid, and the next begins behind them.
use Rattle.std.proofs.Common.{◌≡◌}
use Rattle.plan.specs.Plan.{from}
use Rattle.orders.specs.Tables.{LaidTo}
use Rattle.orders.proofs.tables.Tables.new.Given as goal

abbrev pub invariant-loop-f : goal.invariant-loop-f
invariant-loop-f l = LaidTo l.counts.n l.counts.m l.f l.starts l.columns × (l.end ≡ from l.counts.n l.counts.m l.f)
