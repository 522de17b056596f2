-- `write_residues` meets its contract: each turn writes one residue.
use Rattle.std.proofs.Common.{ap, sym, ◌∙◌, pos, get_or, w32, rules, arith}
use Rattle.std.proofs.lemmas.List.{length-map}
use Rattle.std.proofs.Math.ListN.{get_or-map}
use Rattle.definitions.specs.Arithmetic.{residue}
use Rattle.laws.specs.SignedTests.{back}
use Rattle.laws.specs.Write.{writing_turn}
use Rattle.sealing.proofs.write_residues.Goals as goal

pub loop-i-preserved : goal.loop-i-preserved
loop-i-preserved c =
    let l = c.loop-i in
    let numbers = c.args.numbers.now in
    writing_turn (length-map numbers residue ∙ c.requires) l.invariant 0 c.residue.result (omega arith)
    (c.residue.ensures ∙ ap residue (back w32 (get_or numbers l.i (pos 0)) (search rules)) ∙ sym (get_or-map residue numbers l.i (pos 0)))
