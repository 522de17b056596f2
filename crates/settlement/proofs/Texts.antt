-- What too little room leaves, the text of a refused book, and what an accepted one leaves.
use Rattle.std.specs.Prelude.{ℕ, ◌≤◌, ◌<◌, ◌≡◌, refl, false, List, leb, length, ℤ}
use Rattle.std.proofs.Common.{sym, ap, ap₂, ◌∙◌, true≢false, le-leb}
use Rattle.std.proofs.lemmas.Bool.{lt-leb}
use Rattle.definitions.specs.Limits.{cell_count}
use Rattle.definitions.specs.Book.{Book}
use Rattle.definitions.specs.Sheet.{result_count}
use Rattle.definitions.specs.Answers.{Refusal, none, refuse, is_none, number_of, place_of, unless}
use Rattle.definitions.specs.Calls.{AcceptedBook, seal_refusal, counts_refusal, open_refusal, opened_results}
use Rattle.definitions.specs.Outcome.{plan_run, clear_sheet, clear_welfare}
use Rattle.definitions.specs.Plan.{Plan}
use Rattle.definitions.specs.Settle.{refused_text, listing, Input, book_text, refused, readable}
use Rattle.laws.specs.Refusal.{first_refused, unless_refused}
use Rattle.laws.specs.Sizes.{accepted_sizes}
use Rattle.listing.specs.Text.{text_room, text_size, text_slice, refused_size, refused_slice}
use Rattle.plan.specs.Plan.{plan}
use Rattle.clearing.specs.Opens.{plan_opens}
use Rattle.settlement.specs.Settled.{settled_text, settled_size, settled_slice, settled_sheet}

-- ---- One text, written as it is defined

module _ (input : Input) (cells : ℕ) (text out : List ℕ) (same : text ≡ settled_text plan input cells) where
  pub size_of : text_size (leb text_room (length out)) text ≡ settled_size plan input cells (length out)
  unfolding settled_size
  size_of = ap (text_size (leb text_room (length out))) same

  pub slice_of : text_slice (leb text_room (length out)) text out ≡ settled_slice plan input cells out
  unfolding settled_slice
  slice_of = ap (λ (l : List ℕ). text_slice (leb text_room (length out)) l out) same

module _ (i j : Input) (cells : ℕ) (out : List ℕ) (same : settled_text plan i cells ≡ settled_text plan j cells) where
  pub same_size : settled_size plan i cells (length out) ≡ settled_size plan j cells (length out)
  unfolding settled_size
  same_size = ap (text_size (leb text_room (length out))) same

  pub same_slice : settled_slice plan i cells out ≡ settled_slice plan j cells out
  unfolding settled_slice
  same_slice = ap (λ (l : List ℕ). text_slice (leb text_room (length out)) l out) same

-- ---- Too little room

module _ (B : Book) (cells : ℕ) (sheet out : List ℕ) (short : length out < text_room) where
  pub no_room : (0 ≡ settled_size plan (readable B) cells (length out))
      × ((sheet ≡ settled_sheet plan (readable B) (length out) sheet) × (out ≡ settled_slice plan (readable B) cells out))
  unfolding settled_size settled_slice
  no_room = rw (lt-leb text_room (length out) short) (refl, (refl, refl))

-- ---- A refusal

module _ (r : Refusal) (cells number place : ℕ) (out : List ℕ) (k : number ≡ number_of r) (p : place ≡ place_of r) where
  text : refused_text number place ≡ settled_text plan (refused r) cells
  text = ap₂ refused_text k p

  pub refusal_size : refused_size number place (length out) ≡ settled_size plan (refused r) cells (length out)
  unfolding refused_size
  refusal_size = size_of (refused r) cells (refused_text number place) out text

  pub refusal_slice : refused_slice number place out ≡ settled_slice plan (refused r) cells out
  unfolding refused_slice
  refusal_slice = slice_of (refused r) cells (refused_text number place) out text

-- by its number and place
book_refused : (P : Plan) (B : Book) (r : Refusal) → is_none r ≡ false → book_text P B r ≡ refused_text (number_of r) (place_of r)
book_refused P B none e = absurd (true≢false e)
book_refused P B (refuse number place) e = refl

pub refused_text_lem : (B : Book) (r : Refusal) (cells : ℕ) → r ≡ seal_refusal B cells → is_none (seal_refusal B cells) ≡ false
    → settled_text plan (refused r) cells ≡ settled_text plan (readable B) cells
refused_text_lem B r cells e refuses =
    ap (λ (q : Refusal). refused_text (number_of q) (place_of q)) e ∙ sym (book_refused plan B (seal_refusal B cells) refuses)

-- a refused book leaves the sheet
pub sheet_left : (B : Book) (sheet : List ℕ) → is_none (seal_refusal B (length sheet)) ≡ false → sheet ≡ clear_sheet plan B sheet
unfolding clear_sheet
sheet_left B sheet refuses = sym (unless_refused (seal_refusal B (length sheet)) (plan_run plan B) sheet refuses)

-- with room, the sheet is the one that clearing leaves
pub sheet_cleared : (B : Book) (room : ℕ) (sheet left : List ℕ) → text_room ≤ room → left ≡ clear_sheet plan B sheet → left ≡ settled_sheet plan (readable B) room sheet
sheet_cleared B room sheet left roomy cleared = rw (le-leb text_room room roomy) cleared

-- refused counts refuse the book
pub counts_refuse : (B : Book) (cells : ℕ) → is_none (counts_refusal B.n B.m) ≡ false → counts_refusal B.n B.m ≡ seal_refusal B cells
unfolding seal_refusal
counts_refuse B cells refuses = sym (first_refused (counts_refusal B.n B.m) _ refuses)

-- ---- An accepted book: `left` is the sheet that clearing left

module _ (B : Book) (sheet left : List ℕ) (accepted : seal_refusal B (length sheet) ≡ none) (cleared : left ≡ clear_sheet plan B sheet) where
  lent : length sheet ≡ cell_count
  lent = (accepted_sizes B (length sheet) accepted).lengths.sheet

  book_accepted : AcceptedBook B
  book_accepted = ap (seal_refusal B) (sym lent) ∙ accepted

  ran : left ≡ plan_run plan B
  unfolding clear_sheet
  ran = cleared ∙ ap (λ (r : Refusal). unless r (plan_run plan B) sheet) accepted

  -- by the counts that were judged
  module _ (n m : ℕ) (same : (n ≡ B.n) × (m ≡ B.m)) where
    pub opens : open_refusal n m left (result_count n m) ≡ none
    opens = rw (same.0, same.1) (ap (λ (s : List ℕ). open_refusal B.n B.m s (result_count B.n B.m)) ran ∙ plan_opens B book_accepted)

    -- with the welfare that clearing gave
    pub accepted_text : (w : ℤ) → w ≡ clear_welfare plan B (length sheet) → listing n m (opened_results n m left) w ≡ settled_text plan (readable B) (length sheet)
    accepted_text w q = rw (same.0, same.1, ran, q, accepted, lent) refl
