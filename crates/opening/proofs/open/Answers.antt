-- `open` meets its contract: the result cells lie on the sheet, and each turn copies one reading.
use Rattle.std.proofs.Common.{ℕ, ◌+◌, ◌≤◌, ◌≡◌, refl, sym, ap₂, ◌∙◌, List, ℤ, pos, length, arith, w32}
use Rattle.definitions.specs.Sheet.{first_result}
use Rattle.definitions.specs.Answers.{none}
use Rattle.definitions.specs.Calls.{open_refusal, open_slice}
use Rattle.laws.specs.SignedTests.{back}
use Rattle.laws.specs.Write.{writing_turn, writing_ends}
use Rattle.residues.specs.Residues.{read_residue}
use Rattle.opening.specs.Openable.{openable, results_fit}
use Rattle.opening.specs.Readings.{readings, readings_length, reading_at, opened}
use Rattle.opening.proofs.open.Goals as goal

-- the readings of as many cells as `out` has places, from the first result on, are to be copied
module _ (n m : ℕ) (sheet : List ℕ) (out : List ℤ) (passed : none ≡ open_refusal n m sheet (length out)) {N M first : ℕ} (same : (N ≡ n) × (M ≡ m)) (found : first ≡ first_result N M) where
  begins : first ≡ first_result n m
  begins = found ∙ ap₂ first_result same.0 same.1

  fits : first + length out ≤ length sheet
  fits = results_fit n m sheet (length out) (sym passed) first begins

  copied : readings sheet first (length out) ≡ open_slice n m sheet out
  unfolding open_slice
  copied = opened n m sheet first (length out) begins (openable n m sheet (length out) (sym passed)).sizes.count ∙ rw (← passed) refl

pub loop-i-preserved : goal.loop-i-preserved
loop-i-preserved c =
    let a = c.args in
    let k = c.in_ok-counts.ensures in
    let l = c.loop-i in
    let first = c.first_result-first.result in
    let h = openable a.n a.m a.sheet.now (length a.out.now) (sym k.refusal) in
    writing_turn (readings_length a.sheet.now first (length a.out.now) (fits a.n a.m a.sheet.now a.out.now k.refusal k.counts c.first_result-first.ensures)) l.invariant (pos 0) _ (omega arith)
    (back w32 c.reading.result c.reading.type_inv
    ∙ c.reading.ensures
    ∙ read_residue _ (h.below _)
    ∙ sym (reading_at a.sheet.now first (length a.out.now) l.i c.loop-i-test.true))

pub returns-clause-results : goal.returns-clause-results
returns-clause-results c =
    let a = c.args in
    let k = c.in_ok-counts.ensures in
    let first = c.first_result-first.result in
    writing_ends (readings_length a.sheet.now first (length a.out.now) (fits a.n a.m a.sheet.now a.out.now k.refusal k.counts c.first_result-first.ensures)) c.loop-i.invariant (omega arith)
    ∙ copied a.n a.m a.sheet.now a.out.now k.refusal k.counts c.first_result-first.ensures
