-- `carried` meets its contract: each turn adds the size of one line's flow.
use Rattle.std.proofs.Common.{ap, ◌∙◌, arith, ℤ, pos, nat_abs, get_or, ◌+◌, ◌*◌, w32}
use borrow.Author.Rules.{sfits_of}
use Rattle.laws.specs.IntegerSize.{size_fits}
use Rattle.laws.specs.SignedTests.{back}
use Rattle.sums.proofs.Summing.{summing_begins, summing_turn}
use Rattle.sums.proofs.pools.carried.Goals as goal

pub loop-k-init : goal.loop-k-init
loop-k-init c = summing_begins _

pub loop-k-preserved : goal.loop-k-preserved
loop-k-preserved c =
    let flow : ℤ = get_or c.args.flows.now (c.loop-k.k * c.args.step + c.args.first) (pos 0) in
    let fits = sfits_of c.flow-1.given in
    let part = c.unsigned_abs.ensures.value ∙ ap nat_abs (back w32 flow c.flow-1.given) in
    summing_turn c.loop-k.invariant _ part (omega (arith, part, size_fits w32 flow fits))
