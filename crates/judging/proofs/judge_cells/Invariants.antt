-- Invariant: the answer is that of the cells from c on.
use Rattle.std.specs.Prelude.{ℕ, ◌≡◌, ◌-◌, List, length, cond, ltb}
use Rattle.definitions.specs.Limits.{modulus}
use Rattle.definitions.specs.Answers.{Refusal, none, refuse}
use Rattle.definitions.specs.Machine.{cell}
use Rattle.definitions.specs.Calls.{first_from, cells_refusal}
use Rattle.judging.proofs.judge_cells.Given as goal

abbrev cell_at : List ℕ → ℕ → Refusal
cell_at sheet c = cond (ltb (cell sheet c) modulus) none (refuse 15 c)

abbrev pub invariant-loop-c : goal.invariant-loop-c
invariant-loop-c l = cells_refusal l.sheet ≡ first_from l.c (length l.sheet - l.c) (cell_at l.sheet)
