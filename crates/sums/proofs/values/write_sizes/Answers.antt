-- `write_sizes` meets its contract: each turn writes the size of one number.
use Rattle.std.proofs.Common.{ℕ, ◌≡◌, sym, ap, ◌∙◌, arith, rules, w32, pos, nat_abs, get_or}
use Rattle.std.proofs.lemmas.List.{length-map}
use Rattle.std.proofs.Math.ListN.{get_or-map}
use Rattle.laws.specs.SignedTests.{back}
use Rattle.laws.specs.Write.{writing_turn}
use Rattle.sums.proofs.values.write_sizes.Goals as goal

pub loop-i-preserved : goal.loop-i-preserved
loop-i-preserved c =
    let numbers = c.args.numbers.now in
    let i = c.loop-i.i in
    let sized : (v : ℕ) → v ≡ c.unsigned_abs.result → v ≡ nat_abs (get_or numbers i (pos 0)) =
    λ v same. same ∙ (c.unsigned_abs.ensures.value ∙ ap nat_abs (back w32 (get_or numbers i (pos 0)) c.number-1.given)) in
    writing_turn (length-map numbers nat_abs ∙ sym c.requires) c.loop-i.invariant 0 _ (omega (arith, c.loop-i.invariant.as_long, c.loop-i-test.true))
    (sized _ (search rules) ∙ sym (get_or-map nat_abs numbers i (pos 0)))
