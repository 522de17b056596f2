-- The reader's state after each byte and after a piece of the text.
use Rattle.std.specs.Prelude.{ℕ, cond, List, [], ◌∷◌, ℤ, Ok}
use Rattle.definitions.specs.Settle.{blank}
use Rattle.stages.specs.declared.words.Word.TheVariants.{Empty}
use Rattle.stages.specs.declared.Stage.TheVariants as stage
use Rattle.stages.specs.Words.{grown_by, ended_of}
use Rattle.stages.specs.Counting.{Input, stage_input, taken_by, place_for, stored_at, decided}
use Rattle.text.specs.declared.Reader.{Reader}

-- a reader with the numbers that it has stored
pub record Reading : Type 0 where
  pub reader : Reader
  pub numbers : List ℤ

-- the state of a reader with its numbers
abbrev pub read_so_far : Reader → List ℤ → Reading
read_so_far reader numbers = record { reader = reader; numbers = numbers }

-- what a reader answers by the words that it has read
abbrev pub answer_so_far : Reading → Input
answer_so_far s = stage_input s.reader.stage

-- before the first byte
abbrev pub start_reader : Reader
start_reader = record { word = Empty; stage = Ok stage.First }

-- the word ends, by a blank or with the text
unfoldable pub word_ended : Reading → Reading
word_ended s =
    read_so_far
    (record { word = Empty; stage = taken_by s.reader.stage (ended_of s.reader.word) })
    (stored_at (ended_of s.reader.word) (place_for s.reader.stage) s.numbers)

-- one byte more of a word
abbrev pub word_grown : Reading → ℕ → Reading
word_grown s byte = read_so_far (record { word = grown_by s.reader.word byte; stage = s.reader.stage }) s.numbers

-- one byte more
unfoldable pub after_byte : Reading → ℕ → Reading
after_byte s byte = cond (decided s.reader.stage) s (cond (blank byte) (word_ended s) (word_grown s byte))

-- a piece of the text
unfoldable pub fed : Reading → List ℕ → Reading
fed s [] = s
fed s (byte ∷ text) = fed (after_byte s byte) text

-- what is fed where the rest of a text is not known: the byte of a question mark, which no text may have
abbrev pub failed_read : List ℕ
failed_read = 63 ∷ []
