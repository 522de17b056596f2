-- What settling gives on a sheet of 4,096 cells, with room for the text, is what the documents have printed (`settled_over`, `settled_first`), also
-- where the text was read in pieces (`settles`).
use Rattle.std.specs.Prelude.{ℕ, ◌≤◌, ◌≡◌, refl, Bool, true, false, List, leb, length, take, drop, ℤ}
use Rattle.std.proofs.Common.{sym, ap, ◌∙◌, arith, length-append, length-drop, take_at, length-take-le, le-leb, leb-true}
use Rattle.definitions.specs.Limits.{cell_count}
use Rattle.definitions.specs.Answers.{Refusal, none, refuse}
use Rattle.definitions.specs.Book.{Book}
use Rattle.definitions.specs.Calls.{seal_refusal}
use Rattle.definitions.specs.Settle.{Input, unreadable, refused, readable, input_text, book_text, unreadable_text, settle_text}
use Rattle.definitions.specs.Plan.{Plan, over}
use Rattle.laws.specs.Sizes.{accepted_sizes}
use Rattle.stages.specs.Counting.{table_numbers}
use Rattle.text.specs.Pieces.{joined, pieces_read, reads_pieces}
use Rattle.listing.specs.Room.{listing_fits, refused_fits}
use Rattle.listing.specs.Text.{text_room, text_size, text_slice}
use Rattle.settlement.specs.Settled.{settled_text, settled_size, settled_slice}

-- on a sheet of 4,096 cells the text is the definition's
pub printed_text : (plan : Plan) (input : Input) → settled_text plan input cell_count ≡ input_text plan input
unfolding input_text
printed_text plan unreadable = refl
printed_text plan (refused r) = refl
printed_text plan (readable B) = refl

-- every text fits in the room asked for
book_fits : (plan : Plan) (B : Book) (cells : ℕ) (r : Refusal) → seal_refusal B cells ≡ r → length (book_text plan B r) ≤ text_room
book_fits plan B cells none e = let counts = (accepted_sizes B cells e).counts in listing_fits B.n B.m _ _ counts.bids counts.pools.most
book_fits plan B cells (refuse number place) e = refused_fits number place

pub text_fits : (plan : Plan) (input : Input) (cells : ℕ) → length (settled_text plan input cells) ≤ text_room
unfolding unreadable_text
text_fits plan unreadable cells = omega arith
text_fits plan (refused r) cells = refused_fits _ _
text_fits plan (readable B) cells = book_fits plan B cells (seal_refusal B cells) refl

-- no more bytes are given than were lent
pub settled_within : (plan : Plan) (input : Input) (cells room : ℕ) → settled_size plan input cells room ≤ room
unfolding settled_size
settled_within plan input cells room = go (leb text_room room) refl
  where
    go : (t : Bool) → leb text_room room ≡ t → text_size t (settled_text plan input cells) ≤ room
    go true e = omega (arith, text_fits plan input cells, leb-true text_room room e)
    go false e = omega arith

-- the slice keeps its length
pub settled_length : (plan : Plan) (input : Input) (cells : ℕ) (out : List ℕ) → length (settled_slice plan input cells out) ≡ length out
unfolding settled_slice
settled_length plan input cells out = go (leb text_room (length out)) refl
  where
    go : (t : Bool) → leb text_room (length out) ≡ t → length (text_slice t (settled_text plan input cells) out) ≡ length out
    go true e =
        omega (
          arith,
          length-append (settled_text plan input cells) (drop (length (settled_text plan input cells)) out),
          length-drop (length (settled_text plan input cells)) out,
          text_fits plan input cells,
          leb-true text_room (length out) e,
        )
    go false e = refl

-- r counts bytes at the start of the slice. The second part follows from the first; with both a caller's `&out[..r]` needs no proof.
pub settled_counts : (plan : Plan) (input : Input) (cells r : ℕ) (out after : List ℕ) → r ≡ settled_size plan input cells (length out)
    → after ≡ settled_slice plan input cells out → (r ≤ length after) × (r ≡ length (take r after))
settled_counts plan input cells r out after e f =
    let within : r ≤ length after = omega (arith, ap length f ∙ settled_length plan input cells out, settled_within plan input cells (length out)) in
    (within, sym (length-take-le r after within))

-- with 4,096 cells and room enough, the definition's text is written
pub settled_over : (plan : Plan) (input : Input) (cells r : ℕ) (out after : List ℕ) → r ≡ settled_size plan input cells (length out)
    → after ≡ settled_slice plan input cells out → cells ≡ cell_count → text_room ≤ length out
    → (r ≡ length (input_text plan input)) × (after ≡ over (input_text plan input) out)
unfolding settled_size settled_slice
settled_over plan input cells r out after size bytes e h =
    let roomy = le-leb text_room (length out) h in
    let text : settled_text plan input cells ≡ input_text plan input = rw e (printed_text plan input) in
    (size ∙ rw (roomy, text) refl, bytes ∙ rw (roomy, text) refl)

-- the bytes that are written are the first of the slice
pub settled_first : (plan : Plan) (input : Input) (cells r : ℕ) (out after : List ℕ) → r ≡ settled_size plan input cells (length out)
    → after ≡ settled_slice plan input cells out → cells ≡ cell_count → text_room ≤ length out → take r after ≡ input_text plan input
settled_first plan input cells r out after size bytes e h =
    let o = settled_over plan input cells r out after size bytes e h in
    rw (o.0, o.1) (take_at (input_text plan input) (drop (length (input_text plan input)) out) (length (input_text plan input)) refl)

-- a text that was read in pieces, however it is cut: the first bytes of the slice are the documents' for the whole
pub settles : (plan : Plan) (stored : List ℤ) (pieces : List (List ℕ)) (cells : ℕ) (out : List ℕ)
    → length stored ≡ table_numbers → cells ≡ cell_count → text_room ≤ length out
    → let input = pieces_read stored pieces in
    take (settled_size plan input cells (length out)) (settled_slice plan input cells out) ≡ settle_text plan (joined pieces)
unfolding settle_text
settles plan stored pieces cells out l e h =
    settled_first plan (pieces_read stored pieces) cells _ out _ refl refl e h ∙ ap (input_text plan) (reads_pieces stored pieces l)
