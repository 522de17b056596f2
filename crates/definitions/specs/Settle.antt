-- The program settle: the text that it reads and the text that it prints (document 01, 'Proved examples', "Program settle", and document 02,
-- request 5).
use Rattle.std.specs.Prelude.{ℕ, zero, suc, ◌+◌, ◌-◌, ◌*◌, ◌/◌, ◌%◌, Bool, true, false, cond, ◌&&◌, ◌||◌, List, [], ◌∷◌, ◌++◌, ltb, eqb, leb, length, take, drop, ℤ, pos, negsuc, neg_ℤ}
use Rattle.std.specs.Int.Signed.{lt_z}
use Rattle.definitions.specs.Limits.{cell_count, bid_numbers}
use Rattle.definitions.specs.Arithmetic.{join_to, within}
use Rattle.definitions.specs.Book.{Book, book, in_hundredths}
use Rattle.definitions.specs.Answers.{Refusal, none, refuse, number_of, place_of}
use Rattle.definitions.specs.Calls.{counts_refusal, seal_refusal, opened_results, result_at, flow_place, pool_place, pool_hundredths_place, presence_place}
use Rattle.definitions.specs.Plan.{Plan}
use Rattle.definitions.specs.Outcome.{plan_run, clear_welfare}

-- ---- The text read

-- "with spaces or line ends (bytes 32 and 10) between"
abbrev pub blank : ℕ → Bool
blank byte = eqb byte 32 || eqb byte 10

-- a word that has ended; between two blanks there is none
abbrev pub ended : List ℕ → List (List ℕ)
ended [] = []
ended (byte ∷ word) = (byte ∷ word) ∷ []

-- the words of a text, the bytes between blanks; `word` is what was read of the first one
unfoldable pub words_from : (word : List ℕ) → List ℕ → List (List ℕ)
words_from word [] = ended word
words_from word (byte ∷ text) = cond (blank byte) (ended word ++ words_from [] text) (words_from (word ++ (byte ∷ [])) text)

-- "any or none before the first and after the last"
unfoldable pub words : List ℕ → List (List ℕ)
words text = words_from [] text

-- a word as a whole number, or that it is none
pub data Whole : Type 0 where
  no_number : Whole
  whole : ℤ → Whole

-- digits after some of value v
unfoldable pub digits_from : (negative : Bool) (v : ℕ) → List ℕ → Whole
digits_from negative v [] = whole (cond negative (neg_ℤ (pos v)) (pos v))
digits_from negative v (digit ∷ word) =
    cond (leb 48 digit && leb digit 57) (digits_from negative (10 * v + (digit - 48)) word) no_number

-- "one or more decimal digits"
abbrev pub digits : (negative : Bool) → List ℕ → Whole
digits negative [] = no_number
digits negative (digit ∷ word) = digits_from negative 0 (digit ∷ word)

-- "a minus or none" before them
abbrev pub signed : List ℕ → Whole
signed [] = no_number
signed (byte ∷ word) = cond (eqb byte 45) (digits true word) (digits false (byte ∷ word))

-- "each within signed 32 bits"
abbrev pub fitting32 : Whole → Whole
fitting32 no_number = no_number
fitting32 (whole z) = cond (within (neg_ℤ (pos 2147483648)) (pos 2147483647) z) (whole z) no_number

-- the number that a word is
unfoldable pub whole_of : List ℕ → Whole
whole_of word = fitting32 (signed word)

-- all words as numbers
pub data Numbers : Type 0 where
  no_numbers : Numbers
  numbers : List ℤ → Numbers

-- a number before the others; one word that is none leaves none
abbrev pub prepend : Whole → Numbers → Numbers
prepend no_number rest = no_numbers
prepend (whole z) no_numbers = no_numbers
prepend (whole z) (numbers zs) = numbers (z ∷ zs)

-- "exactly the whole numbers called for": each word is one
unfoldable pub word_numbers : List (List ℕ) → Numbers
word_numbers [] = numbers []
word_numbers (word ∷ rest) = prepend (whole_of word) (word_numbers rest)

-- what a text is: unreadable, refused, or a book to clear
pub data Input : Type 0 where
  unreadable : Input
  refused : Refusal → Input
  readable : Book → Input

-- "then bids, then capacity rows", exactly as many numbers as called for; "Settle reads four numbers a bid"
abbrev pub tables : (n m : ℕ) → Numbers → Input
tables n m no_numbers = unreadable
tables n m (numbers zs) =
    cond (eqb (length zs) (bid_numbers * n + m * m))
    (readable (book n m (take (bid_numbers * n) zs) (drop (bid_numbers * n) zs)))
    unreadable

-- "1 and 2 are tested once n and m are both read, before the rest is looked at"
abbrev pub after_counts : (n m : ℕ) → Refusal → List (List ℕ) → Input
after_counts n m none rest = tables n m (word_numbers rest)
after_counts n m (refuse number place) rest = refused (refuse number place)

-- "n and m not below 0"
abbrev pub with_counts : Whole → Whole → List (List ℕ) → Input
with_counts no_number m rest = unreadable
with_counts (whole z) no_number rest = unreadable
with_counts (whole (negsuc n)) (whole z) rest = unreadable
with_counts (whole (pos n)) (whole (negsuc m)) rest = unreadable
with_counts (whole (pos n)) (whole (pos m)) rest = after_counts n m (counts_refusal n m) rest

-- the input that some words are: n and m are the first two
abbrev pub input_of : List (List ℕ) → Input
input_of [] = unreadable
input_of (n ∷ []) = unreadable
input_of (n ∷ m ∷ rest) = with_counts (whole_of n) (whole_of m) rest

-- "Program settle reads standard input: n and m, then bids, then capacity rows."
unfoldable pub settle_input : List ℕ → Input
settle_input text = input_of (words text)

-- ---- The text printed

-- the decimal digits of v, at most k of them, the last digit of v last
unfoldable pub decimal_to : (k v : ℕ) → List ℕ
decimal_to zero v = []
decimal_to (suc k) v = cond (ltb v 10) ((48 + v) ∷ []) (decimal_to k (v / 10) ++ ((48 + v % 10) ∷ []))

-- no number here has more than 20 digits
unfoldable pub decimal : ℕ → List ℕ
decimal v = decimal_to 20 v

-- with a minus if negative
unfoldable pub decimal_z : ℤ → List ℕ
decimal_z (pos v) = decimal v
decimal_z (negsuc v) = 45 ∷ decimal (suc v)

-- byte 32
abbrev pub space : List ℕ
space = 32 ∷ []

-- byte 10
abbrev pub newline : List ℕ
newline = 10 ∷ []

-- `bid`
abbrev pub bid_word : List ℕ
bid_word = 98 ∷ 105 ∷ 100 ∷ []

-- `line`
abbrev pub line_word : List ℕ
line_word = 108 ∷ 105 ∷ 110 ∷ 101 ∷ []

-- `price`
abbrev pub price_word : List ℕ
price_word = 112 ∷ 114 ∷ 105 ∷ 99 ∷ 101 ∷ []

-- `none`
abbrev pub none_word : List ℕ
none_word = 110 ∷ 111 ∷ 110 ∷ 101 ∷ []

-- `welfare`
abbrev pub welfare_word : List ℕ
welfare_word = 119 ∷ 101 ∷ 108 ∷ 102 ∷ 97 ∷ 114 ∷ 101 ∷ []

-- `refused`
abbrev pub refused_word : List ℕ
refused_word = 114 ∷ 101 ∷ 102 ∷ 117 ∷ 115 ∷ 101 ∷ 100 ∷ []

-- `unreadable`
abbrev pub unreadable_word : List ℕ
unreadable_word = 117 ∷ 110 ∷ 114 ∷ 101 ∷ 97 ∷ 100 ∷ 97 ∷ 98 ∷ 108 ∷ 101 ∷ []

-- "Other text prints `unreadable`"
unfoldable pub unreadable_text : List ℕ
unreadable_text = unreadable_word ++ newline

-- "A refusal prints `refused` with number and place"
unfoldable pub refused_text : (number place : ℕ) → List ℕ
refused_text number place = refused_word ++ (space ++ (decimal number ++ (space ++ (decimal place ++ newline))))

-- "bid, accepted"
unfoldable pub bid_line : (bid : ℕ) → ℤ → List ℕ
bid_line bid accepted = bid_word ++ (space ++ (decimal bid ++ (space ++ (decimal_z accepted ++ newline))))

-- "from, to, flow (only flows above 0, by rows)"
unfoldable pub flow_line : (from to : ℕ) → ℤ → List ℕ
flow_line from to flow =
    cond (lt_z (pos 0) flow)
    (line_word ++ (space ++ (decimal from ++ (space ++ (decimal to ++ (space ++ (decimal_z flow ++ newline)))))))
    []

-- a price "as whole hundredths", `none` if it is missing
abbrev pub price_text : (price hundredths presence : ℤ) → List ℕ
price_text price hundredths presence = cond (lt_z (pos 0) presence) (decimal_z (in_hundredths price hundredths)) none_word

-- "pool, price"
unfoldable pub price_line : (pool : ℕ) (price hundredths presence : ℤ) → List ℕ
price_line pool price hundredths presence =
    price_word ++ (space ++ (decimal pool ++ (space ++ (price_text price hundredths presence ++ newline))))

-- the last line, the welfare "as whole hundredths"
unfoldable pub welfare_line : ℤ → List ℕ
welfare_line w = welfare_word ++ (space ++ (decimal_z w ++ newline))

-- the lines of all bids
unfoldable pub bid_lines : (n : ℕ) → List ℤ → List ℕ
bid_lines n results = join_to n (λ i. bid_line (i + 1) (result_at results i))

-- the lines of all flows above 0, by rows
unfoldable pub flow_lines : (n m : ℕ) → List ℤ → List ℕ
flow_lines n m results = join_to m (λ a. join_to m (λ b. flow_line (a + 1) (b + 1) (result_at results (flow_place n m a b))))

-- the lines of all pools
unfoldable pub price_lines : (n m : ℕ) → List ℤ → List ℕ
price_lines n m results =
    join_to m
    (λ p. price_line (p + 1) (result_at results (pool_place n m p)) (result_at results (pool_hundredths_place n m p))
    (result_at results (presence_place n m p)))

-- the text printed for a cleared book, as for example 2
unfoldable pub listing : (n m : ℕ) (results : List ℤ) (w : ℤ) → List ℕ
listing n m results w = bid_lines n results ++ (flow_lines n m results ++ (price_lines n m results ++ welfare_line w))

-- ---- What settle prints for a text

-- of a book: the listing of its cleared results, or its refusal
abbrev pub book_text : Plan → Book → Refusal → List ℕ
book_text plan B none =
    listing B.n B.m (opened_results B.n B.m (plan_run plan B)) (clear_welfare plan B cell_count)
book_text plan B (refuse number place) = refused_text number place

-- of an input
unfoldable pub input_text : Plan → Input → List ℕ
input_text plan unreadable = unreadable_text
input_text plan (refused r) = refused_text (number_of r) (place_of r)
input_text plan (readable B) = book_text plan B (seal_refusal B cell_count)

-- what settle "prints, in full" for the text that it reads
unfoldable pub settle_text : Plan → List ℕ → List ℕ
settle_text plan text = input_text plan (settle_input text)
