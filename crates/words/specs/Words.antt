-- The input as words of four bytes, the slices among them, each behind its length, and which input is that of a call.
use Rattle.std.specs.Prelude.{ℕ, zero, suc, ◌+◌, ◌*◌, ◌-◌, ◌/◌, ◌%◌, min, Bool, true, false, cond, ◌&&◌, List, eqb, leb, ltb, ℤ, pos, negsuc, length, get_or, Option, Some, None}
use Rattle.std.specs.Bool.{then_some}
use Rattle.std.specs.Option.{option_and_then}

-- how many words the program has room for
abbrev pub word_room : ℕ
word_room = 8192

-- how many whole words some bytes are
abbrev pub word_count : List ℕ → ℕ
word_count input = length input / 4

-- word k, lowest byte first, and 0 behind the last
unfoldable pub word_at : (input : List ℕ) (k : ℕ) → ℕ
word_at input k =
    cond (ltb k (word_count input))
    (get_or input (4 * k) 0 + 256 * (get_or input (4 * k + 1) 0 + 256 * (get_or input (4 * k + 2) 0 + 256 * get_or input (4 * k + 3) 0)))
    0

-- a word as a signed number, by two's complement
abbrev pub signed_word : ℕ → ℤ
signed_word v = cond (ltb v 2147483648) (pos v) (negsuc (4294967295 - v))

-- entry i of the slice whose length is the word at a position
abbrev pub entry_at : (input : List ℕ) (at i : ℕ) → ℕ
entry_at input at i = word_at input (at + 1 + i)

-- how many entries it has, as far as there is room
abbrev pub slice_length : (input : List ℕ) (at : ℕ) → ℕ
slice_length input at = min (word_at input at) word_room

-- ---- Which input is that of a call

-- the position behind a slice; none where words are missing
unfoldable pub after_slice : (input : List ℕ) (at : ℕ) → Option ℕ
after_slice input at = then_some (ltb at (word_count input) && leb (at + 1 + word_at input at) (word_count input)) (at + 1 + word_at input at)

-- behind some slices in a row
unfoldable pub after_slices : (input : List ℕ) (at slices : ℕ) → Option ℕ
after_slices input at zero = Some at
after_slices input at (suc slices) = option_and_then (after_slice input) (after_slices input at slices)

-- whether each of some words is a byte
unfoldable pub are_bytes : (input : List ℕ) (from count : ℕ) → Bool
are_bytes input from zero = true
are_bytes input from (suc count) = ltb (word_at input from) 256 && are_bytes input (from + 1) count

-- behind a slice of bytes; none where words are missing or one is no byte
unfoldable pub after_bytes : (input : List ℕ) (at : ℕ) → Option ℕ
after_bytes input at = option_and_then (λ end. then_some (are_bytes input (at + 1) (end - (at + 1))) end) (after_slice input at)

-- whole words, of which a position is the end
abbrev pub ends_at : (input : List ℕ) (at : ℕ) → Bool
ends_at input at = eqb (length input % 4) 0 && eqb at (word_count input)

-- the same of a position if there is one
abbrev pub ends : (input : List ℕ) → Option ℕ → Bool
ends input None = false
ends input (Some at) = ends_at input at

-- words that stand before the slices, then so many slices
unfoldable pub is_call : (input : List ℕ) (before slices : ℕ) → Bool
is_call input before slices = ends input (after_slices input before slices)

-- the same, and one more slice, of bytes
unfoldable pub is_call_with_bytes : (input : List ℕ) (before slices : ℕ) → Bool
is_call_with_bytes input before slices = ends input (option_and_then (after_bytes input) (after_slices input before slices))
