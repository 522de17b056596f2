-- What each call of this crate gives and leaves in the slice lent to it: a text of settle at the slice's start, or nothing.
use Rattle.std.specs.Prelude.{ℕ, Bool, cond, ◌&&◌, List, leb, length, ℤ}
use Rattle.definitions.specs.Answers.{is_none}
use Rattle.definitions.specs.Calls.{results_refusal}
use Rattle.definitions.specs.Plan.{over}
use Rattle.definitions.specs.Settle.{listing, refused_text, unreadable_text}

-- the bytes that a call asks for; no text is longer
abbrev pub text_room : ℕ
text_room = 4096

-- the number of bytes written
abbrev pub text_size : (fits : Bool) (text : List ℕ) → ℕ
text_size fits text = cond fits (length text) 0

-- the slice after the call: the text, and behind it the bytes that stood there
abbrev pub text_slice : (fits : Bool) (text out : List ℕ) → List ℕ
text_slice fits text out = cond fits (over text out) out

-- a listing is written if the counts are within their limits, the results are as many as they call for and there is room
unfoldable pub listable : (n m results room : ℕ) → Bool
listable n m results room = is_none (results_refusal n m results) && leb text_room room

-- the size of a listing
unfoldable pub listing_size : (n m : ℕ) (results : List ℤ) (w : ℤ) (room : ℕ) → ℕ
listing_size n m results w room = text_size (listable n m (length results) room) (listing n m results w)

-- the slice with a listing
unfoldable pub listing_slice : (n m : ℕ) (results : List ℤ) (w : ℤ) → List ℕ → List ℕ
listing_slice n m results w out = text_slice (listable n m (length results) (length out)) (listing n m results w) out

-- the size of a refusal's text
unfoldable pub refused_size : (number place room : ℕ) → ℕ
refused_size number place room = text_size (leb text_room room) (refused_text number place)

-- the slice with it
unfoldable pub refused_slice : (number place : ℕ) → List ℕ → List ℕ
refused_slice number place out = text_slice (leb text_room (length out)) (refused_text number place) out

-- the size of the text for what is unreadable
unfoldable pub unreadable_size : (room : ℕ) → ℕ
unreadable_size room = text_size (leb text_room room) unreadable_text

-- the slice with it
unfoldable pub unreadable_slice : List ℕ → List ℕ
unreadable_slice out = text_slice (leb text_room (length out)) unreadable_text out
