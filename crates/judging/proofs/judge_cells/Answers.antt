-- `judge_cells` meets its contract: each turn judges one cell.
use Rattle.std.proofs.Common.{ℕ, ◌<◌, ◌≤◌, ◌≡◌, sym, ap, ◌∙◌, cond, List, ltb, length, lt-ltb, le-ltb}
use Rattle.definitions.specs.Limits.{modulus}
use Rattle.definitions.specs.Answers.{Refusal, none, refuse, is_none}
use Rattle.definitions.specs.Machine.{cell}
use Rattle.definitions.specs.Calls.{cells_refusal}
use Rattle.laws.specs.Search.{search_begins, search_passes, search_stops, search_ends}
use Rattle.judging.proofs.judge_cells.Goals as goal

abbrev cell_at : List ℕ → ℕ → Refusal
cell_at sheet c = cond (ltb (cell sheet c) modulus) none (refuse 15 c)

-- what the test says of a cell
cell_refused : (sheet : List ℕ) (c : ℕ) → modulus ≤ cell sheet c → cell_at sheet c ≡ refuse 15 c
cell_refused sheet c h = simp (le-ltb _ _ h)

cell_passed : (sheet : List ℕ) (c : ℕ) → cell sheet c < modulus → cell_at sheet c ≡ none
cell_passed sheet c h = simp (lt-ltb _ _ h)

pub loop-c-init : goal.loop-c-init
unfolding cells_refusal
loop-c-init c = let sheet = c.args.sheet.now in search_begins (length sheet) (cell_at sheet)

pub returns-then-cell-ge-MODULUS : goal.returns-then-cell-ge-MODULUS
returns-then-cell-ge-MODULUS c =
    let l = c.loop-c in
    let sheet = c.args.sheet.now in
    let e = cell_refused sheet l.c c.if-cell-ge-MODULUS.true in
    sym (l.invariant ∙ search_stops (length sheet) (cell_at sheet) l.c c.loop-c-test.true (ap is_none e) ∙ e)

pub loop-c-preserved : goal.loop-c-preserved
loop-c-preserved c =
    let l = c.loop-c in
    let sheet = c.args.sheet.now in
    l.invariant ∙ search_passes (length sheet) (cell_at sheet) l.c c.loop-c-test.true (cell_passed sheet l.c c.if-cell-ge-MODULUS.false)

pub returns : goal.returns
returns c =
    let sheet = c.args.sheet.now in
    sym (c.loop-c.invariant ∙ search_ends (length sheet) (cell_at sheet) c.loop-c.c c.loop-c-test.false)
