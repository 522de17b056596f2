-- What settle promises: what each answer of a read makes of the text so far, and what is printed for the text that some reads give.
use Rattle.std.specs.Prelude.{ℕ, zero, suc, ◌≡◌, Bool, true, false, ◌⊎◌, List, [], ◌++◌, take, ℤ, Option, Some, None}
use Rattle.std.specs.declared.ops.ControlFlow.{ControlFlow}
use Rattle.std.specs.declared.ops.ControlFlow.TheVariants.{Continue, Break}
use Rattle.definitions.specs.Settle.{settle_text, unreadable_text, refused_text}
use Rattle.plan.specs.Plan.{plan}
use Rattle.stages.specs.Counting.{Input}
use Rattle.text.specs.declared.Reader.{Reader}
use Rattle.text.specs.Reading.{Reading, read_so_far, start_reader, word_ended, fed, failed_read, answer_so_far}

-- ---- One turn

-- what a text leaves when it is over: the answer, and the numbers stored
pub record Left : Type 0 where
  pub input : Input
  pub numbers : List ℤ

-- the text ends here
abbrev pub left_by : Reading → Left
left_by s = record { input = answer_so_far (word_ended s); numbers = (word_ended s).numbers }

-- the text breaks off here
abbrev pub broken_off : Reading → Left
broken_off s = left_by (fed s failed_read)

-- what a turn gives, the reader to go on from or the answer, and the numbers stored
pub record Turned : Type 0 where
  pub turn : ControlFlow Input Reader
  pub numbers : List ℤ

-- the answer is there
abbrev pub text_over : Left → Turned
text_over left = record { turn = Break left.input; numbers = left.numbers }

-- the next turn goes on from here
abbrev pub text_onward : Reading → Turned
text_onward s = record { turn = Continue s.reader; numbers = s.numbers }

-- no number: the read has failed; 0: the input has ended; any other: so many bytes at the start of the piece come next
unfoldable pub turned : Reading → (got : Option ℕ) (piece : List ℕ) → Turned
turned s None piece = text_over (broken_off s)
turned s (Some zero) piece = text_over (left_by s)
turned s (Some (suc k)) piece = text_onward (fed s (take (suc k) piece))

-- ---- The text that the reads give

-- a read: how many bytes it gave, none where it failed, and what stood in the piece after it
pub record ReadAnswer : Type 0 where
  pub got : Option ℕ
  pub piece : List ℕ

-- the reads after the first, `reads 0`
abbrev pub later_reads : (ℕ → ReadAnswer) → (ℕ → ReadAnswer)
later_reads reads i = reads (suc i)

-- what a read adds to the text, with what the later reads give
abbrev pub text_before : (got : Option ℕ) (piece rest : List ℕ) → List ℕ
text_before None piece rest = failed_read
text_before (Some zero) piece rest = []
text_before (Some (suc k)) piece rest = take (suc k) piece ++ rest

-- the text that reads in so many turns give: where the turns end before the text, its rest is not known
unfoldable pub text_of : (turns : ℕ) → (ℕ → ReadAnswer) → List ℕ
text_of zero reads = failed_read
text_of (suc turns) reads = text_before (reads 0).got (reads 0).piece (text_of turns (later_reads reads))

-- whether a read has found the end of the input, and none failed before it
abbrev pub end_before : (got : Option ℕ) (rest : Bool) → Bool
end_before None rest = false
end_before (Some zero) rest = true
end_before (Some (suc k)) rest = rest

-- whether one of so many reads has found the end of the input
unfoldable pub end_found : (turns : ℕ) → (ℕ → ReadAnswer) → Bool
end_found zero reads = false
end_found (suc turns) reads = end_before (reads 0).got (end_found turns (later_reads reads))

-- ---- What settle promises

-- how many turns the loop has: as many as a number of 64 bits counts
abbrev pub read_limit : ℕ
read_limit = 18446744073709551615

-- the answer and the numbers stored are those of the text that some reads give, read from its start with `before` stored at first;
-- no contract can say which bytes a read gives
pub record ReadWhole (before : List ℤ) (input : Input) (numbers : List ℤ) : Type 0 where
  pub reads : ℕ → ReadAnswer
  pub answered : input ≡ (left_by (fed (read_so_far start_reader before) (text_of read_limit reads))).input
  pub stored : numbers ≡ (left_by (fed (read_so_far start_reader before) (text_of read_limit reads))).numbers

-- `unreadable`, or a refusal of the counts
abbrev pub NothingCleared : (printed : List ℕ) → Type 0
NothingCleared printed = (printed ≡ unreadable_text) ⊎ ((printed ≡ refused_text 1 0) ⊎ (printed ≡ refused_text 2 0))

-- what the documents have printed for the text that some reads give; and nothing is cleared where no read has found its end
pub record PrintsWhole (printed : List ℕ) : Type 0 where
  pub reads : ℕ → ReadAnswer
  pub whole : printed ≡ settle_text plan (text_of read_limit reads)
  pub part : end_found read_limit reads ≡ false → NothingCleared printed
