-- `order_at` meets its contract: the position's phase, and the order there.
use Rattle.std.proofs.Common.{ℕ, ap, ◌∙◌, arith, get_or}
use Rattle.definitions.specs.declared.Order.TheVariants.{Constant}
use Rattle.plan.specs.Plan.{plan}
use Rattle.orders.specs.Stretches.{from_start}
use Rattle.orders.specs.Steps.{plan_end}
use Rattle.orders.proofs.tables.Tables.order_at.Goals as goal

pub settled-requires : goal.settled-requires
settled-requires c =
    let t = c.args.self.now in
    omega (arith, plan_end t.counts.n t.counts.m t.sizes (omega arith) t.phases, from_start t.sizes c.args.at)

pub returns : goal.returns
returns c =
    let t = c.args.self.now in
    c.order_within.ensures
    ∙ ap (λ (k : ℕ). get_or (plan t.counts.n t.counts.m) k (Constant 0 0)) (c.settled.ensures.same ∙ from_start t.sizes c.args.at)
