-- Last theorem: a text, read byte by byte from its start to its end, is what the documents say of it (`reads`).
use Rattle.std.specs.Prelude.{ℕ, ◌≡◌, refl, Bool, true, false, List, [], ◌∷◌, ◌++◌, length, replicate, ℤ, pos, Ok, Err}
use Rattle.std.proofs.Common.{sym, ap, ◌∙◌, true≢false, append-nil}
use Rattle.definitions.specs.Settle.{blank, ended, words, words_from, whole_of, settle_input}
use Rattle.definitions.specs.Settle as settle
use Rattle.stages.specs.declared.words.Word.{Word}
use Rattle.stages.specs.declared.words.Word.TheVariants.{Empty}
use Rattle.stages.specs.declared.Stage.TheVariants as stage
use Rattle.stages.specs.declared.Unsettled.TheVariants.{Unreadable, Refused}
use Rattle.stages.specs.Words.{Ended, nothing, ended_of}
use Rattle.stages.specs.Counting.{table_numbers, Progress, decided, taken_by, stage_input, input_for}
use Rattle.text.specs.Reading.{Reading, read_so_far, start_reader, word_ended, fed, answer_so_far}
use Rattle.text.specs.Steps.{step_blank, step_grown, decided_stays}
use Rattle.stages.specs.Values.{word_from, word_more, word_ends}
use Rattle.stages.specs.Stages.{Held, Onward, continued, word_taken, text_ended}

-- a reader in the middle of a word
abbrev pub in_word : Word → Progress → List ℤ → Reading
in_word word s stored = read_so_far (record { word = word; stage = s }) stored

-- what the text is if it ends here
unfoldable finished : Reading → settle.Input
finished s = input_for (answer_so_far (word_ended s)) (word_ended s).numbers

-- ---- The answer is known

decided_taken : (s : Progress) (e : Ended) → decided s ≡ true → taken_by s e ≡ s
decided_taken (Ok s) e o = absurd (true≢false (sym o))
decided_taken (Err why) e o = refl

decided_answered : (s : Progress) (numbers stored : List ℤ) (left : List (List ℕ)) → decided s ≡ true → input_for (stage_input s) numbers ≡ continued s stored left
decided_answered (Ok s) numbers stored left o = absurd (true≢false (sym o))
decided_answered (Err Unreadable) numbers stored left o = refl
decided_answered (Err (Refused reason)) numbers stored left o = refl

decided_finished : (word : Word) (s : Progress) (stored : List ℤ) (left : List (List ℕ)) → decided s ≡ true → finished (in_word word s stored) ≡ continued s stored left
unfolding finished word_ended
decided_finished word s stored left o = rw (decided_taken s (ended_of word) o) (decided_answered s _ stored left o)

-- ---- A word has ended

nothing_taken : (s : Progress) → taken_by s nothing ≡ s
nothing_taken (Ok s) = refl
nothing_taken (Err why) = refl

word_onward : (word : List ℕ) (s : Progress) (stored : List ℤ) (left : List (List ℕ)) → Held s → length stored ≡ table_numbers
    → let r = word_ended (in_word (word_from Empty word) s stored) in
    Onward r.reader.stage r.numbers left (continued s stored (ended word ++ left))
unfolding word_ended word_from
word_onward [] s stored left h l = rw (nothing_taken s) record { same = refl; held = h; long = l }
word_onward (byte ∷ word) s stored left h l = rw (word_ends byte word) (word_taken s stored (byte ∷ word) (whole_of (byte ∷ word)) left h l refl)

finished_here : (word : List ℕ) (s : Progress) (stored : List ℤ) → Held s → length stored ≡ table_numbers → finished (in_word (word_from Empty word) s stored) ≡ continued s stored (ended word)
unfolding finished
finished_here word s stored h l =
    let w = word_onward word s stored [] h l in
    let r = word_ended (in_word (word_from Empty word) s stored) in
    sym (ap (continued s stored) (sym (append-nil (ended word))) ∙ w.same ∙ text_ended r.reader.stage r.numbers w.held w.long)

-- ---- The rest of the text

-- a text that is read from within a word gives what the words left continue to
abbrev ReadsFrom : (text word : List ℕ) (s : Progress) (stored : List ℤ) → Type 0
ReadsFrom text word s stored = Held s → length stored ≡ table_numbers
    → finished (fed (in_word (word_from Empty word) s stored) text) ≡ continued s stored (words_from word text)

reads_from : (text word : List ℕ) (s : Progress) (stored : List ℤ) → ReadsFrom text word s stored
unfolding fed words_from word_ended word_from
reads_from [] word s stored h l = finished_here word s stored h l
reads_from (byte ∷ text) word s stored h l = go (decided s) refl (blank byte) refl (reads_from text)
  where
    go : (t : Bool) → decided s ≡ t → (u : Bool) → blank byte ≡ u → ((word' : List ℕ) (s' : Progress) (stored' : List ℤ) → ReadsFrom text word' s' stored')
        → finished (fed (in_word (word_from Empty word) s stored) (byte ∷ text)) ≡ continued s stored (words_from word (byte ∷ text))
    go true o u b onward =
        ap finished (decided_stays (byte ∷ text) (in_word (word_from Empty word) s stored) o) ∙ decided_finished (word_from Empty word) s stored _ o
    go false o true b onward =
        let w = word_onward word s stored (words_from [] text) h l in
        let r = word_ended (in_word (word_from Empty word) s stored) in
        rw (step_blank (in_word (word_from Empty word) s stored) byte o b, b)
        (onward [] r.reader.stage r.numbers w.held w.long ∙ sym w.same)
    go false o false b onward =
        rw (step_grown (in_word (word_from Empty word) s stored) byte o b, b, word_more word byte Empty)
        (onward (word ++ (byte ∷ [])) s stored h l)

-- no number yet: 0 in every place
abbrev pub none_stored : List ℤ
none_stored = replicate table_numbers (pos 0)

-- a whole text, read from its start to its end, with `before` stored at first
abbrev pub whole_read : (before : List ℤ) (text : List ℕ) → Reading
whole_read before text = word_ended (fed (read_so_far start_reader before) text)

-- it is what the documents say of it
pub reads : (before : List ℤ) (text : List ℕ) → length before ≡ table_numbers → let read = whole_read before text in input_for (answer_so_far read) read.numbers ≡ settle_input text
unfolding settle_input words word_from finished
reads before text l = reads_from text [] (Ok stage.First) before tt l
