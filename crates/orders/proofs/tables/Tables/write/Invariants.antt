-- The loop keeps `Filled`: the orders so far, all that fit of them, are written in front of what the slice held; and a place of the next position.
use Rattle.std.proofs.Common.{◌≡◌}
use Rattle.columns.specs.Plans.{plan_by}
use Rattle.plan.specs.Plan.{plan}
use Rattle.orders.specs.Stretches.{position}
use Rattle.orders.proofs.Filling.{Filled}
use Rattle.orders.proofs.tables.Tables.write.Given as goal

abbrev pub invariant-loop-next : goal.invariant-loop-next
invariant-loop-next l = Filled (plan_by l.by plan) l.self.counts.n l.self.counts.m l.at l.initial.out l.out l.next l.bytes × (position l.self.sizes l.place ≡ l.next)
