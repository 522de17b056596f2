-- What tables are made for: the plan of their counts, its phases, and its orders by cells.
use Rattle.std.specs.Prelude.{ℕ, List}
use Rattle.definitions.specs.declared.Order.{Order}
use Rattle.plan.specs.Orders.{OrderOn}
use Rattle.plan.specs.Names.{Name}
use Rattle.plan.specs.Table.{Phase, phase_at}
use Rattle.plan.specs.Plan.{plan}
use Rattle.orders.specs.declared.tables.Tables.{Tables}
use Rattle.orders.specs.declared.shape.Spot.{Spot}
use Rattle.orders.specs.Named.{numbered_of}
use Rattle.orders.specs.Shaped.{order_in}
use Rattle.orders.specs.Runs.{ran_of}

-- their plan
abbrev pub plan_of : Tables → List Order
plan_of t = plan t.counts.n t.counts.m

-- its phase k
abbrev pub phase_of : Tables → ℕ → Phase
phase_of t k = phase_at t.counts.n t.counts.m k

-- the machine's order at a place of it
abbrev pub order_at : Tables → ℕ → Spot → Order
order_at t k s = numbered_of t.counts.n t.counts.m (order_in (phase_of t k) s)

-- a slice after some of its orders over names
abbrev pub ran_by : Tables → List (OrderOn Name) → List ℕ → List ℕ
ran_by t l s = ran_of t.counts.n t.counts.m l s
