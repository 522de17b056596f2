-- The readings of some cells in a row, and the result cells' readings.
use Rattle.std.specs.Prelude.{ℕ, ◌+◌, ◌<◌, ◌≤◌, ◌≡◌, List, map, ℤ, pos, length, get_or, take, drop}
use Rattle.std.proofs.Common.{ap, ap₂, ◌∙◌, arith, length-drop, length-take-le, get_or-take, get_or-drop}
use Rattle.std.proofs.lemmas.List.{length-map}
use Rattle.std.proofs.Math.ListN.{get_or-map}
use Rattle.definitions.specs.Arithmetic.{reading}
use Rattle.definitions.specs.Sheet.{first_result, result_count}
use Rattle.definitions.specs.Calls.{opened_results}

-- of k cells, from one on
abbrev pub readings : List ℕ → (from k : ℕ) → List ℤ
readings sheet from k = map reading (take k (drop from sheet))

pub readings_length : (sheet : List ℕ) (from k : ℕ) → from + k ≤ length sheet → length (readings sheet from k) ≡ k
readings_length sheet from k h =
    length-map (take k (drop from sheet)) reading
    ∙ length-take-le k (drop from sheet) (omega (arith, length-drop from sheet))

pub reading_at : (sheet : List ℕ) (from k i : ℕ) → i < k → get_or (readings sheet from k) i (pos 0) ≡ reading (get_or sheet (from + i) 0)
reading_at sheet from k i h =
    get_or-map reading (take k (drop from sheet)) i 0
    ∙ ap reading (get_or-take k (drop from sheet) i 0 h ∙ get_or-drop from sheet i 0)

-- the result cells are those that opening copies
pub opened : (n m : ℕ) (sheet : List ℕ) (from k : ℕ) → from ≡ first_result n m → k ≡ result_count n m → readings sheet from k ≡ opened_results n m sheet
unfolding opened_results
opened n m sheet from k e h = ap₂ (λ (f : ℕ) (j : ℕ). readings sheet f j) e h
