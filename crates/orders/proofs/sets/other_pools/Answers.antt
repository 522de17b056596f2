-- The lowest pool's digit goes.
use Rattle.std.proofs.Common.{◌+◌, ◌^◌, ◌≡◌, arith}
use Rattle.plan.specs.Subsets.{others}
use Rattle.orders.specs.Digits.{others_is}
use Rattle.orders.proofs.sets.other_pools.Goals as goal
use Rattle.orders.proofs.sets.other_pools.Goals.{After-lowest_pool}

left : (c : After-lowest_pool) → let m = c.args.counts.m in others m c.args.s + 2 ^ c.lowest_pool.result ≡ c.args.s
left c =
    let m = c.args.counts.m in
    rw c.lowest_pool.ensures.0 (others_is m c.args.s c.requires.some c.requires.below)

pub overflow_sub-result : goal.overflow_sub-result
overflow_sub-result c = omega (arith, left c)

pub returns : goal.returns
returns c = omega (arith, left c)
