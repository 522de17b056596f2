-- The digits of a set are fewer than the width's.
use Rattle.std.proofs.Common.{ℕ, ◌+◌, ◌-◌, ◌≡◌, sym, ap, ◌∙◌, arith}
use Rattle.std.specs.Prelude.{min}
use Rattle.std.specs.Int.Count.{count_trailing_zeros}
use Rattle.definitions.specs.Counts.{pools_fit}
use Rattle.plan.specs.Subsets.{lowest}
use Rattle.orders.specs.Digits.{lowest_is}
use Rattle.orders.proofs.sets.lowest_pool.Goals as goal

pub returns : goal.returns
returns c =
    let m = c.args.counts.m in
    let width : m + (64 - m) ≡ 64 = omega (arith, pools_fit c.args.counts) in
    let is : lowest m c.args.s ≡ min m (count_trailing_zeros 64 c.args.s)
    = lowest_is m (64 - m) c.args.s ∙ ap (λ (k : ℕ). min m (count_trailing_zeros k c.args.s)) width in
    (c.min.ensures ∙ sym is, omega (arith, c.min.ensures))
