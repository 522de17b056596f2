-- `judge_book` meets its contract: each judge is asked what those before it let through.
use Rattle.std.proofs.Common.{ℕ, ◌≡◌, refl, sym, ap, ap₂, ◌∙◌, Bool, true, false, eqb, eq-eqb, ne_eqb, [], Ok, Err}
use Rattle.std.specs.Result.{result_and}
use Rattle.std.proofs.lemmas.Result.{err_from_is_err_and}
use Rattle.definitions.specs.declared.Reason.{Reason}
use Rattle.definitions.specs.Limits.{cell_count}
use Rattle.definitions.specs.Answers.{Refusal, none, refuse, first, stated, refusal_of}
use Rattle.definitions.specs.Book.{Book, book, book_of}
use Rattle.definitions.specs.Calls.{length_refusal, bids_refusal, row_refusal, capacities_refusal, seal_refusal}
use Rattle.laws.specs.Refusal.{first_refused}
use Rattle.laws.specs.Verdicts.{Verdict, stated_refuses}
use Rattle.judging.specs.Tables.{tables_refusal, tables_refused, tables_passed}
use Rattle.judging.proofs.judge_book.Goals as goal

-- two judges in one: the first that refuses
both_judged : (v w : Verdict) → refusal_of (result_and v w) ≡ first (refusal_of v) (refusal_of w)
both_judged (Ok tt) w = refl
both_judged (Err reason) w = sym (first_refused (stated reason) (refusal_of w) (stated_refuses reason))

-- what is asked of all lengths, and then of the bids and capacities
abbrev asked : Book → Bool → Refusal
asked B fit = first (length_refusal fit) (first (bids_refusal B) (capacities_refusal B))

module _ (B : Book) (cells : ℕ) where
  by_tables : (reason : Reason) → stated reason ≡ tables_refusal B → stated reason ≡ seal_refusal B cells
  unfolding seal_refusal
  by_tables reason e = tables_refused B (eqb cells cell_count) (asked B) reason refl e

  module _ (passed : none ≡ tables_refusal B) where
    by_cells : eqb cells cell_count ≡ false → refuse 3 0 ≡ seal_refusal B cells
    unfolding seal_refusal
    by_cells other = ap (asked B) (sym other) ∙ tables_passed B (eqb cells cell_count) (asked B) passed

    -- N and M are the counts that the tables' judge gave
    by_entries : eqb cells cell_count ≡ true → (N M : ℕ) → (N ≡ B.n) × (M ≡ B.m) → (r : Refusal)
        → r ≡ first (bids_refusal (book N M B.bids [])) (capacities_refusal (book 0 M [] B.capacities)) → r ≡ seal_refusal B cells
    unfolding seal_refusal bids_refusal capacities_refusal row_refusal
    by_entries whole N M same r e = (rw (same.0, same.1) at e) ∙ ap (asked B) (sym whole) ∙ tables_passed B (eqb cells cell_count) (asked B) passed

pub returns-in_err-counts-clause-refusal : goal.returns-in_err-counts-clause-refusal
returns-in_err-counts-clause-refusal c =
    let p = err_from_is_err_and c.from_residual.result c.from_residual.ensures.1 in
    rw (p.1, p.2) (by_tables (book_of c.args.book.now) c.args.cells c.in_err-counts.field-0.0 c.in_err-counts.ensures.refusal)

pub returns-then-cells-ne-CELLS-clause-refusal : goal.returns-then-cells-ne-CELLS-clause-refusal
returns-then-cells-ne-CELLS-clause-refusal c =
    by_cells (book_of c.args.book.now) c.args.cells c.in_ok-counts.ensures.refusal (ne_eqb _ _ c.if-cells-ne-CELLS.true)

pub returns-in_err-and-clause-refusal : goal.returns-in_err-and-clause-refusal
returns-in_err-and-clause-refusal c =
    let r = c.from_residual-in_err-and in
    let p = err_from_is_err_and r.result r.ensures.1 in
    let k = c.in_ok-counts in
    let e = c.in_err-and in
    rw (p.1, p.2)
    (by_entries (book_of c.args.book.now) c.args.cells k.ensures.refusal (eq-eqb _ _ c.if-cells-ne-CELLS.false) k.counts.n k.counts.m k.ensures.counts (stated e.field-0.0)
    (ap refusal_of e.ensures ∙ both_judged _ _ ∙ ap₂ first c.judge_bids.ensures c.judge_capacities.ensures))

pub returns-clause-refusal : goal.returns-clause-refusal
returns-clause-refusal c =
    let k = c.in_ok-counts in
    by_entries (book_of c.args.book.now) c.args.cells k.ensures.refusal (eq-eqb _ _ c.if-cells-ne-CELLS.false) k.counts.n k.counts.m k.ensures.counts none
    (ap refusal_of c.in_ok-and.ensures ∙ both_judged _ _ ∙ ap₂ first c.judge_bids.ensures c.judge_capacities.ensures)
