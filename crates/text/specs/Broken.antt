-- A text that breaks off. Last theorem: it is unreadable, or refused by its counts, and never a book to clear (`broken_turned_away`).
use Rattle.std.specs.Prelude.{ℕ, ◌+◌, ◌*◌, ◌≡◌, refl, Bool, true, false, cond, ◌||◌, ◌⊎◌, List, [], ◌∷◌, ◌++◌, ltb, eqb, length, take, drop, ℤ, pos, negsuc, Ok, Err}
use Rattle.std.proofs.Common.{subst, inl, inr, arith}
use Rattle.definitions.specs.Limits.{bid_limit, pool_limit, bid_numbers}
use Rattle.definitions.specs.Book.{book}
use Rattle.definitions.specs.Answers.{none, refuse}
use Rattle.definitions.specs.Calls.{counts_refusal}
use Rattle.definitions.specs.Settle.{Whole, no_number, whole, whole_of, Numbers, no_numbers, numbers, word_numbers}
use Rattle.definitions.specs.Settle.{Input, unreadable, refused, readable, tables, after_counts, with_counts, input_of, words, settle_input}
use Rattle.stages.specs.declared.words.Word.{Word}
use Rattle.stages.specs.declared.words.Word.TheVariants.{Empty, Minus, Digits, NoNumber}
use Rattle.stages.specs.declared.Stage.TheVariants as stage
use Rattle.stages.specs.declared.Unsettled.TheVariants.{Unreadable, Refused}
use Rattle.stages.specs.Words.{grown_by}
use Rattle.stages.specs.Counting as answer
use Rattle.stages.specs.Counting.{Progress, input_for}
use Rattle.text.specs.Reading.{Reading, read_so_far, start_reader, word_ended, after_byte, fed, failed_read, answer_so_far}
use Rattle.text.specs.Steps.{fed_append}
use Rattle.text.specs.Texts.{none_stored, whole_read, reads}

-- unreadable, or refused by its counts; never a book to clear
abbrev pub TurnedAway : Input → Type 0
TurnedAway unreadable = Unit {0}
TurnedAway (refused r) = (r ≡ refuse 1 0) ⊎ (r ≡ refuse 2 0)
TurnedAway (readable B) = ⊥

-- a text is refused by its counts only
abbrev CountsOnly : Input → Type 0
CountsOnly unreadable = Unit {0}
CountsOnly (refused r) = (r ≡ refuse 1 0) ⊎ (r ≡ refuse 2 0)
CountsOnly (readable B) = Unit {0}

tables_refuse_nothing : (n m : ℕ) (zs : Numbers) → CountsOnly (tables n m zs)
tables_refuse_nothing n m no_numbers = tt
tables_refuse_nothing n m (numbers zs) = go (eqb (length zs) (bid_numbers * n + m * m))
  where
    go : (t : Bool) → CountsOnly (cond t (readable (book n m (take (bid_numbers * n) zs) (drop (bid_numbers * n) zs))) unreadable)
    go true = tt
    go false = tt

counts_refuse : (n m : ℕ) (rest : List (List ℕ)) → CountsOnly (after_counts n m (counts_refusal n m) rest)
counts_refuse n m rest = go (ltb bid_limit n) (eqb m 0 || ltb pool_limit m)
  where
    go : (t u : Bool) → CountsOnly (after_counts n m (cond t (refuse 1 0) (cond u (refuse 2 0) none)) rest)
    go true u = inl refl
    go false true = inr refl
    go false false = tables_refuse_nothing n m (word_numbers rest)

both_refuse : (n m : Whole) (rest : List (List ℕ)) → CountsOnly (with_counts n m rest)
both_refuse no_number m rest = tt
both_refuse (whole z) no_number rest = tt
both_refuse (whole (negsuc n)) (whole z) rest = tt
both_refuse (whole (pos n)) (whole (negsuc m)) rest = tt
both_refuse (whole (pos n)) (whole (pos m)) rest = counts_refuse n m rest

words_refuse : (words : List (List ℕ)) → CountsOnly (input_of words)
words_refuse [] = tt
words_refuse (n ∷ []) = tt
words_refuse (n ∷ m ∷ rest) = both_refuse (whole_of n) (whole_of m) rest

-- the reader's answer is no book
abbrev NoBook : answer.Input → Type 0
NoBook (Ok tables) = ⊥
NoBook (Err why) = Unit {0}

-- a word with that byte is no number
no_number_lem : (word : Word) → grown_by word 63 ≡ NoNumber
no_number_lem Empty = refl
no_number_lem Minus = refl
no_number_lem (Digits d) = refl
no_number_lem NoNumber = refl

byte_no_book : (word : Word) (s : Progress) (stored : List ℤ) → NoBook (answer_so_far (word_ended (after_byte (read_so_far (record { word = word; stage = s }) stored) 63)))
unfolding after_byte word_ended
byte_no_book word (Ok stage.First) stored = rw (no_number_lem word) tt
byte_no_book word (Ok (stage.Second n)) stored = rw (no_number_lem word) tt
byte_no_book word (Ok (stage.Tables n m read)) stored = rw (no_number_lem word) tt
byte_no_book word (Err why) stored = tt

broken_no_book : (s : Reading) → NoBook (answer_so_far (word_ended (fed s failed_read)))
unfolding fed
broken_no_book s = byte_no_book s.reader.word s.reader.stage s.numbers

-- refused by its counts only, and no book
no_book_to_clear : (a : answer.Input) (stored : List ℤ) (i : Input) → input_for a stored ≡ i → NoBook a → CountsOnly i → TurnedAway i
no_book_to_clear a stored unreadable e b c = tt
no_book_to_clear a stored (refused r) e b c = c
no_book_to_clear (Err Unreadable) stored (readable B) e b c = let z : ◌≡◌ {A = ℕ} 0 1 = cc in absurd (omega arith)
no_book_to_clear (Err (Refused reason)) stored (readable B) e b c = let z : ◌≡◌ {A = ℕ} 0 1 = cc in absurd (omega arith)
no_book_to_clear (Ok tables) stored (readable B) e b c = b

pub broken_turned_away : (text : List ℕ) → TurnedAway (settle_input (text ++ failed_read))
unfolding settle_input
broken_turned_away text =
    let s = fed (read_so_far start_reader none_stored) text in
    let read = whole_read none_stored (text ++ failed_read) in
    no_book_to_clear (answer_so_far read) read.numbers (settle_input (text ++ failed_read)) (reads none_stored (text ++ failed_read) refl)
    (subst (λ (r : Reading). NoBook (answer_so_far (word_ended r))) (fed_append text failed_read (read_so_far start_reader none_stored)) (broken_no_book s))
    (words_refuse (words (text ++ failed_read)))
