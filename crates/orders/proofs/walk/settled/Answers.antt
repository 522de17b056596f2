-- `settled` meets its contract: a place before the end lies in a stretch, so the search ends in one.
use Rattle.std.proofs.Common.{◌+◌, ◌-◌, refl, ◌∙◌}
use Rattle.orders.specs.Stretches.{size_at, stretch_there, one_further}
use Rattle.orders.proofs.walk.settled.Goals as goal

pub loop-at-init : goal.loop-at-init
loop-at-init c = (refl, stretch_there _ _ _ c.requires)

pub loop-at-preserved : goal.loop-at-preserved
loop-at-preserved c =
    let a = c.args in
    let at = c.loop-at.at in
    let same = one_further a.sizes.now at.stretch at.before c.loop-at-test.true ∙ c.loop-at.invariant.0 in
    (same, stretch_there a.sizes.now (at.stretch + 1) (at.before - size_at a.sizes.now at.stretch) (rw same c.requires))
