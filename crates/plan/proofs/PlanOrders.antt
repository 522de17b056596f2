-- The plan's orders are the machine's (`plan_orders`) and not too many (`plan_length_limit`, `total_limit`).
use Rattle.std.specs.Prelude.{ℕ, ◌+◌, ◌*◌, ◌^◌, ◌≤◌, ◌<◌, ◌≡◌, refl, List, [], ◌∷◌, length}
use Rattle.std.proofs.Common.{mul-le-mul, arith}
use Rattle.std.proofs.Math.Nat.{pow-le-pow_left}
use Rattle.definitions.specs.declared.Order.{Order}
use Rattle.definitions.specs.Limits.{bid_limit, pool_limit}
use Rattle.definitions.specs.Machine.{AllWellFormed}
use Rattle.definitions.specs.Outcome.{order_limit}
use Rattle.definitions.specs.Answers.{Refusal, none, refuse, unless}
use Rattle.definitions.specs.Calls.{counts_refusal}
use Rattle.definitions.specs.Plan.{total}
use Rattle.laws.specs.Sizes.{Counts, counted}
use Rattle.plan.specs.Entries.{All}
use Rattle.plan.specs.Plan.{plan, WritesNoInput}
use Rattle.plan.proofs.PlanFacts.{plan_bound, plan_writes_no_input}

all_well_formed : (n m : ℕ) (os : List Order) → All (WritesNoInput n m) os → AllWellFormed os
all_well_formed n m [] all = all
all_well_formed n m (o ∷ os) all = (all.0.0, all_well_formed n m os all.1)

pub plan_orders : (n m : ℕ) → n ≤ bid_limit → m ≤ pool_limit → AllWellFormed (plan n m)
plan_orders n m bids pools = all_well_formed n m (plan n m) (plan_writes_no_input n m bids pools)

module _ (n m : ℕ) (bids : n ≤ bid_limit) (positive : 0 < m) (pools : m ≤ pool_limit) where
  pub plan_length_limit : length (plan n m) ≤ order_limit n m
  plan_length_limit = plan_bound n m positive pools

-- the limit at the greatest counts
limit_grows : (n m : ℕ) → n ≤ bid_limit → m ≤ pool_limit → order_limit n m ≤ order_limit bid_limit pool_limit
limit_grows n m h k = go ((m + 1) ^ 6) (pow-le-pow_left {n = m + 1} {m = pool_limit + 1} (omega arith) 6)
  where
    go : (power : ℕ) → power ≤ (pool_limit + 1) ^ 6 → n * (200 * n + 40 * power) + 10000 ≤ order_limit bid_limit pool_limit
    go power p = let each : 200 * n + 40 * power ≤ 200 * bid_limit + 40 * (pool_limit + 1) ^ 6 = omega arith in omega (arith, mul-le-mul h each)

-- at accepted counts
pub length_limit : (n m : ℕ) → Counts n m → length (plan n m) ≤ order_limit bid_limit pool_limit
length_limit n m c = omega (arith, plan_length_limit n m c.bids c.pools.least c.pools.most, limit_grows n m c.bids c.pools.most)

-- each position before the total has a next one
pub total_limit : (n m : ℕ) → total plan n m ≤ order_limit bid_limit pool_limit
unfolding total
total_limit n m = go (counts_refusal n m) refl
  where
    go : (r : Refusal) → counts_refusal n m ≡ r → unless r (length (plan n m)) 0 ≤ order_limit bid_limit pool_limit
    go none e = length_limit n m (counted n m e)
    go (refuse k x) e = omega arith
