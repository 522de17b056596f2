-- A list of 4,096 cells is a sheet exactly if none of its cells is refused.
use Rattle.std.specs.Prelude.{ℕ, ◌+◌, ◌<◌, ◌≡◌, cond, List, ltb, length}
use Rattle.std.proofs.Common.{arith, zero-add, ltb-true, lt-ltb}
use Rattle.std.proofs.Math.Decide.{dec_lt}
use Rattle.std.proofs.Math.ListN.{get_or-eq_default}
use Rattle.definitions.specs.Limits.{cell_count, modulus}
use Rattle.definitions.specs.Answers.{Refusal, none, refuse}
use Rattle.definitions.specs.Machine.{cell, IsSheet}
use Rattle.definitions.specs.Calls.{cells_refusal}
use Rattle.laws.specs.Refusal.{test_passed, first_from_each, each_from}

-- what is said of cell c, which holds x
abbrev cell_refusal : (x c : ℕ) → Refusal
cell_refusal x c = cond (ltb x modulus) none (refuse 15 c)

-- a cell behind the last reads as 0
pub cells_below : (s : List ℕ) → cells_refusal s ≡ none → (c : ℕ) → cell s c < modulus
unfolding cells_refusal
cells_below s e c = elim (dec_lt c (length s)) [
  | yes l ↦ ltb-true (cell s c) modulus (test_passed _ 15 c (rw (zero-add c) at (first_from_each 0 (length s) (λ i. cell_refusal (cell s i) i) e c l)))
  | no l ↦ rw (get_or-eq_default s 0 {n = c} (omega arith)) (omega arith)
]

pub accepted_sheet : (s : List ℕ) → length s ≡ cell_count → cells_refusal s ≡ none → IsSheet s
accepted_sheet s h e = record { cells = h; below = cells_below s e }

pub sheet_accepted : (s : List ℕ) → IsSheet s → cells_refusal s ≡ none
unfolding cells_refusal
sheet_accepted s h = each_from 0 (length s) (λ i. cell_refusal (cell s i) i) (λ c l. simp (lt-ltb (cell s (0 + c)) modulus (h.below (0 + c))))
