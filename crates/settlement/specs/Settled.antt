-- What settling gives and leaves for every input: the text at the start of the slice lent for it, and the sheet that clearing leaves.
use Rattle.std.specs.Prelude.{ℕ, ◌*◌, ◌≤◌, ◌≡◌, cond, List, leb, length, take, drop, ℤ}
use Rattle.definitions.specs.Limits.{bid_numbers, cell_count}
use Rattle.definitions.specs.Book.{Book, book}
use Rattle.definitions.specs.Answers.{number_of, place_of}
use Rattle.definitions.specs.Calls.{seal_refusal}
use Rattle.definitions.specs.Plan.{Plan, over}
use Rattle.definitions.specs.Outcome.{clear_sheet}
use Rattle.definitions.specs.Settle.{Input, unreadable, refused, readable, unreadable_text, refused_text, book_text, settle_text}
use Rattle.listing.specs.Text.{text_room, text_size, text_slice}

-- the book of the tables of a ready text: first the numbers of the bids, then those of the capacities
abbrev pub book_at : (n m : ℕ) → List ℤ → Book
book_at n m numbers = book n m (take (bid_numbers * n) numbers) (take (m * m) (drop (bid_numbers * n) numbers))

-- and the text, by it
abbrev pub tables_of : (n m : ℕ) → List ℤ → Input
tables_of n m numbers = readable (book_at n m numbers)

-- the text, by the number of cells lent; with 4,096 of them it is the definition's (`printed_text`)
abbrev pub settled_text : Plan → Input → (cells : ℕ) → List ℕ
settled_text plan unreadable cells = unreadable_text
settled_text plan (refused r) cells = refused_text (number_of r) (place_of r)
settled_text plan (readable B) cells = book_text plan B (seal_refusal B cells)

-- nothing is written where there is less room than a listing may need
unfoldable pub settled_size : Plan → Input → (cells room : ℕ) → ℕ
settled_size plan input cells room = text_size (leb text_room room) (settled_text plan input cells)

-- the text, and behind it the bytes that stood there
unfoldable pub settled_slice : Plan → Input → (cells : ℕ) → List ℕ → List ℕ
settled_slice plan input cells out = text_slice (leb text_room (length out)) (settled_text plan input cells) out

-- only a book is cleared, and only with room for its listing; a refused one leaves the sheet as it was
abbrev pub settled_sheet : Plan → Input → (room : ℕ) → List ℕ → List ℕ
settled_sheet plan unreadable room sheet = sheet
settled_sheet plan (refused r) room sheet = sheet
settled_sheet plan (readable B) room sheet = cond (leb text_room room) (clear_sheet plan B sheet) sheet

-- with 4,096 cells and room for it, what the documents have printed for the text lies over the slice, and r is its size
abbrev pub Prints : Plan → (text : List ℕ) (cells : ℕ) (out : List ℕ) (r : ℕ) (after : List ℕ) → Type 0
Prints plan text cells out r after =
    cells ≡ cell_count → text_room ≤ length out → (r ≡ length (settle_text plan text)) × (after ≡ over (settle_text plan text) out)
