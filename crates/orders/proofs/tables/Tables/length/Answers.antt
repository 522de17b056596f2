-- `length` meets its contract: each turn adds the size of one phase.
use Rattle.std.proofs.Common.{◌≡◌, refl, ap, ◌∙◌, arith, length}
use Rattle.definitions.specs.Arithmetic.{sum_to}
use Rattle.laws.specs.Sum.{sum_next}
use Rattle.orders.specs.Stretches.{start, size_at}
use Rattle.orders.specs.Steps.{plan_end}
use Rattle.orders.proofs.tables.Tables.length.Goals as goal

pub loop-size-init : goal.loop-size-init
unfolding start sum_to
loop-size-init c = record { is = refl; bound = omega arith }

pub loop-size-preserved : goal.loop-size-preserved
unfolding start
loop-size-preserved c =
    let k = c.loop-size.size-index in
    let size = c.args.self.now.phases k c.loop-size-test.true in
    record {
      is = omega (arith, sum_next k (size_at c.args.self.now.sizes), c.loop-size.invariant.is);
      bound = omega (arith, size.small, c.loop-size.invariant.bound);
    }

pub returns : goal.returns
returns c =
    let T = c.args.self.now in
    let last : c.loop-size.size-index ≡ length T.sizes = omega arith in
    c.loop-size.invariant.is ∙ ap (start T.sizes) last ∙ plan_end _ _ T.sizes (omega arith) T.phases
