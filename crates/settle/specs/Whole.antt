-- Turn by turn settle reads the text that the reads give (`turn_onward`, `turn_over`, `turns_over`), and prints what is to be printed for it (`prints_whole`).
use Rattle.std.specs.Prelude.{ℕ, zero, suc, ◌≡◌, List, [], length, take, ℤ, Option, Some, None}
use Rattle.std.specs.declared.ops.ControlFlow.TheVariants.{Continue, Break}
use Rattle.std.proofs.Common.{sym, ap, ◌∙◌, inl, inr, arith}
use Rattle.definitions.specs.Answers.{Refusal, number_of, place_of}
use Rattle.definitions.specs.Settle as settle
use Rattle.definitions.specs.Settle.{input_text, settle_text, settle_input, refused_text}
use Rattle.plan.specs.Plan.{plan}
use Rattle.text.specs.declared.Reader.{Reader}
use Rattle.stages.specs.Counting.{table_numbers, Input, input_for}
use Rattle.text.specs.Reading.{Reading, read_so_far, start_reader, fed}
use Rattle.text.specs.Steps.{fed_append}
use Rattle.text.specs.Texts.{reads}
use Rattle.text.specs.Broken.{TurnedAway}
use Rattle.settle.specs.Turns.{left_by, broken_off, turned, ReadAnswer, text_before, text_of, read_limit, ReadWhole, NothingCleared, PrintsWhole}
use Rattle.settle.specs.Parts.{part_turned_away}

-- ---- Reading

-- however the reads go on with so many turns left, there are reads from the start that lead to the same
pub record Led (before : List ℤ) (s : Reading) (turns : ℕ) (rest : ℕ → ReadAnswer) : Type 0 where
  pub reads : ℕ → ReadAnswer
  pub same : fed (read_so_far start_reader before) (text_of read_limit reads) ≡ fed s (text_of turns rest)

-- some reads from the start have led to this reader and these numbers
abbrev pub SoFar : (before : List ℤ) (reader : Reader) (numbers : List ℤ) (turns : ℕ) → Type 0
SoFar before reader numbers turns = (rest : ℕ → ReadAnswer) → Led before (read_so_far reader numbers) turns rest

-- no turn yet
pub no_turn : (before : List ℤ) (reader : Reader) → reader ≡ start_reader → SoFar before reader before read_limit
no_turn before reader e rest = record { reads = rest; same = ap (λ (r : Reader). fed (read_so_far r before) (text_of read_limit rest)) (sym e) }

-- a read, then others
abbrev pub read_first : ReadAnswer → (ℕ → ReadAnswer) → (ℕ → ReadAnswer)
read_first r rest zero = r
read_first r rest (suc i) = rest i

-- a turn that leads on
more_fed : (s : Reading) (got : Option ℕ) (piece : List ℕ) (next : Reader) (stored : List ℤ) (rest : List ℕ) → Continue next ≡ (turned s got piece).turn
    → stored ≡ (turned s got piece).numbers → fed s (text_before got piece rest) ≡ fed (read_so_far next stored) rest
unfolding turned
more_fed s None piece next stored rest e f = let z : ◌≡◌ {A = ℕ} 0 1 = cc in absurd (omega arith)
more_fed s (Some zero) piece next stored rest e f = let z : ◌≡◌ {A = ℕ} 0 1 = cc in absurd (omega arith)
more_fed s (Some (suc k)) piece next stored rest e f =
    let q : next ≡ (fed s (take (suc k) piece)).reader = cc in
    rw (q, f) (sym (fed_append (take (suc k) piece) rest s))

pub turn_onward : (before : List ℤ) (reader next : Reader) (numbers stored : List ℤ) (turns left : ℕ) (got : Option ℕ) (piece : List ℕ) → SoFar before reader numbers turns
    → turns ≡ suc left → Continue next ≡ (turned (read_so_far reader numbers) got piece).turn → stored ≡ (turned (read_so_far reader numbers) got piece).numbers
    → SoFar before next stored left
unfolding text_of
turn_onward before reader next numbers stored turns left got piece s t e f rest =
    let r : ReadAnswer = record { got = got; piece = piece } in
    let led = s (read_first r rest) in
    record {
      reads = led.reads;
      same =
          led.same
          ∙ ap (λ (k : ℕ). fed (read_so_far reader numbers) (text_of k (read_first r rest))) t
          ∙ more_fed (read_so_far reader numbers) got piece next stored (text_of left rest) e f;
    }

-- a turn that ends the text
over_left : (s : Reading) (got : Option ℕ) (piece : List ℕ) (input : Input) (stored : List ℤ) (rest : List ℕ) → Break input ≡ (turned s got piece).turn
    → stored ≡ (turned s got piece).numbers
    → (input ≡ (left_by (fed s (text_before got piece rest))).input) × (stored ≡ (left_by (fed s (text_before got piece rest))).numbers)
unfolding fed turned
over_left s None piece input stored rest e f = (cc, f)
over_left s (Some zero) piece input stored rest e f = (cc, f)
over_left s (Some (suc k)) piece input stored rest e f = let z : ◌≡◌ {A = ℕ} 0 1 = cc in absurd (omega arith)

-- what the text leaves is what it leaves from the start
text_over_lem : (before : List ℤ) (reader : Reader) (numbers : List ℤ) (turns : ℕ) (rest : ℕ → ReadAnswer) (input : Input) (stored : List ℤ) → SoFar before reader numbers turns
    → (input ≡ (left_by (fed (read_so_far reader numbers) (text_of turns rest))).input) × (stored ≡ (left_by (fed (read_so_far reader numbers) (text_of turns rest))).numbers)
    → ReadWhole before input stored
text_over_lem before reader numbers turns rest input stored s e =
    let led = s rest in
    record {
      reads = led.reads;
      answered = e.0 ∙ ap (λ (r : Reading). (left_by r).input) (sym led.same);
      stored = e.1 ∙ ap (λ (r : Reading). (left_by r).numbers) (sym led.same);
    }

pub turn_over : (before : List ℤ) (reader : Reader) (numbers stored : List ℤ) (turns left : ℕ) (got : Option ℕ) (piece : List ℕ) (input : Input) → SoFar before reader numbers turns
    → turns ≡ suc left → Break input ≡ (turned (read_so_far reader numbers) got piece).turn → stored ≡ (turned (read_so_far reader numbers) got piece).numbers
    → ReadWhole before input stored
unfolding text_of
turn_over before reader numbers stored turns left got piece input s t e f =
    let r : ReadAnswer = record { got = got; piece = piece } in
    text_over_lem before reader numbers turns (λ i. r) input stored s
    (rw t (over_left (read_so_far reader numbers) got piece input stored (text_of left (λ i. r)) e f))

-- no turn is left
pub turns_over : (before : List ℤ) (reader : Reader) (numbers stored : List ℤ) (turns : ℕ) (input : Input) → SoFar before reader numbers turns
    → turns ≡ 0 → input ≡ (broken_off (read_so_far reader numbers)).input → stored ≡ (broken_off (read_so_far reader numbers)).numbers
    → ReadWhole before input stored
unfolding text_of
turns_over before reader numbers stored turns input s t e f =
    text_over_lem before reader numbers turns (λ i. record { got = Some 0; piece = [] }) input stored s (rw t (e, f))

-- ---- Printing

-- an input that is turned away is not cleared
nothing_cleared : (printed : List ℕ) (input : settle.Input) → printed ≡ input_text plan input → TurnedAway input → NothingCleared printed
unfolding input_text
nothing_cleared printed settle.unreadable e t = inl e
nothing_cleared printed (settle.refused r) e (inl q) = inr (inl (e ∙ ap (λ (s : Refusal). refused_text (number_of s) (place_of s)) q))
nothing_cleared printed (settle.refused r) e (inr q) = inr (inr (e ∙ ap (λ (s : Refusal). refused_text (number_of s) (place_of s)) q))
nothing_cleared printed (settle.readable _) e t = elim t [ ]

pub prints_whole : (before : List ℤ) (input : Input) (numbers : List ℤ) (printed : List ℕ) → length before ≡ table_numbers
    → ReadWhole before input numbers → printed ≡ input_text plan (input_for input numbers) → PrintsWhole printed
unfolding settle_text
prints_whole before input numbers printed long w p =
    let text = text_of read_limit w.reads in
    let whole : printed ≡ input_text plan (settle_input text) = p ∙ rw (w.answered, w.stored) (ap (input_text plan) (reads before text long)) in
    record { reads = w.reads; whole = whole; part = λ e. nothing_cleared printed (settle_input text) whole (part_turned_away read_limit w.reads e) }
