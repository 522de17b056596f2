-- Last theorem: a word read byte by byte ends as the number that document 01 reads it as, however many digits it has.
use Rattle.std.specs.Prelude.{ℕ, zero, suc, ◌+◌, ◌-◌, ◌*◌, ◌≤◌, ◌<◌, ◌≡◌, refl, Bool, true, false, cond, ◌&&◌, List, [], ◌∷◌, ◌++◌, ltb, leb, eqb, ℤ, pos, negsuc, neg_ℤ}
use Rattle.std.proofs.Common.{sym, ◌∙◌, arith, ltb-true, ltb-false, lt-ltb, le-ltb, le-leb}
use Rattle.std.proofs.lemmas.Bool.{lt-leb}
use Rattle.definitions.specs.Settle.{Whole, no_number, whole, digits_from, digits, signed, fitting32, whole_of}
use Rattle.stages.specs.declared.words.Word.{Word}
use Rattle.stages.specs.declared.words.Word.TheVariants.{Empty, Minus, Digits, NoNumber}
use Rattle.stages.specs.Words.{greatest_size, least_size, beyond, capped, digits_of, grown_by, Ended, number, fault, signed_of, ended_of}

-- ---- A saturated value stays out of range, and any other is exact

pub capped_exact : (v : ℕ) → v < beyond → capped v ≡ v
capped_exact v h = rw (lt-ltb v beyond h) refl

pub capped_beyond : (v : ℕ) → beyond ≤ v → capped v ≡ beyond
capped_beyond v h = rw (le-ltb v beyond h) refl

-- one digit more of a capped value
pub capped_digit : (v d : ℕ) → capped (10 * capped v + d) ≡ capped (10 * v + d)
capped_digit v d = go (ltb v beyond) refl
  where
    go : (t : Bool) → ltb v beyond ≡ t → capped (10 * capped v + d) ≡ capped (10 * v + d)
    go true e = rw (capped_exact v (ltb-true v beyond e)) refl
    go false e =
        let h = ltb-false v beyond e in
        rw (capped_beyond v h) (capped_beyond (10 * beyond + d) (omega arith) ∙ sym (capped_beyond (10 * v + d) (omega arith)))

-- ---- The number at the word's end

-- what a word that has a byte is
abbrev pub ended_for : Whole → Ended
ended_for no_number = fault
ended_for (whole z) = number z

ended_cond : (t : Bool) (z : ℤ) → ended_for (cond t (whole z) no_number) ≡ cond t (number z) fault
ended_cond true z = refl
ended_cond false z = refl

negative_capped : (v : ℕ) → signed_of (digits_of true (capped v)) ≡ ended_for (fitting32 (whole (neg_ℤ (pos v))))
negative_capped zero = refl
negative_capped (suc u) = go (ltb (suc u) beyond) refl
  where
    go : (t : Bool) → ltb (suc u) beyond ≡ t → signed_of (digits_of true (capped (suc u))) ≡ ended_for (fitting32 (whole (negsuc u)))
    go true e =
        let h = ltb-true (suc u) beyond e in
        rw (capped_exact (suc u) h, le-leb (suc u) least_size (omega arith), le-leb u (least_size - 1) (omega arith)) refl
    go false e =
        let h = ltb-false (suc u) beyond e in
        rw (capped_beyond (suc u) h, lt-leb u (least_size - 1) (omega arith)) refl

positive_capped : (v : ℕ) → signed_of (digits_of false (capped v)) ≡ ended_for (fitting32 (whole (pos v)))
positive_capped v = go (ltb v beyond) refl
  where
    go : (t : Bool) → ltb v beyond ≡ t → signed_of (digits_of false (capped v)) ≡ ended_for (fitting32 (whole (pos v)))
    go true e = rw (capped_exact v (ltb-true v beyond e)) (sym (ended_cond (leb v greatest_size) (pos v)))
    go false e =
        let h = ltb-false v beyond e in
        rw (capped_beyond v h, lt-leb v greatest_size (omega arith)) refl

pub signed_capped : (negative : Bool) (v : ℕ) → signed_of (digits_of negative (capped v)) ≡ ended_for (fitting32 (whole (cond negative (neg_ℤ (pos v)) (pos v))))
signed_capped true v = negative_capped v
signed_capped false v = positive_capped v

-- ---- The word's bytes

-- a word after some bytes more
unfoldable pub word_from : Word → List ℕ → Word
word_from word [] = word
word_from word (byte ∷ bytes) = word_from (grown_by word byte) bytes

pub word_more : (bytes : List ℕ) (byte : ℕ) (word : Word) → grown_by (word_from word bytes) byte ≡ word_from word (bytes ++ (byte ∷ []))
unfolding word_from
word_more [] byte word = refl
word_more (first ∷ bytes) byte word = word_more bytes byte (grown_by word first)

no_number_stays : (bytes : List ℕ) → word_from NoNumber bytes ≡ NoNumber
unfolding word_from
no_number_stays [] = refl
no_number_stays (byte ∷ bytes) = no_number_stays bytes

digits_ended : (negative : Bool) (bytes : List ℕ) (v : ℕ) → ended_of (word_from (Digits (digits_of negative (capped v))) bytes) ≡ ended_for (fitting32 (digits_from negative v bytes))
unfolding word_from digits_from
digits_ended negative [] v = signed_capped negative v
digits_ended negative (byte ∷ bytes) v = go (leb 48 byte && leb byte 57) refl (digits_ended negative bytes)
  where
    go : (t : Bool) → (leb 48 byte && leb byte 57) ≡ t
        → ((u : ℕ) → ended_of (word_from (Digits (digits_of negative (capped u))) bytes) ≡ ended_for (fitting32 (digits_from negative u bytes)))
        → ended_of (word_from (Digits (digits_of negative (capped v))) (byte ∷ bytes)) ≡ ended_for (fitting32 (digits_from negative v (byte ∷ bytes)))
    go true e onward = rw (e, capped_digit v (byte - 48)) (onward (10 * v + (byte - 48)))
    go false e onward = rw (e, no_number_stays bytes) refl

-- a minus is read, or none
after_minus : (word : List ℕ) → ended_of (word_from Minus word) ≡ ended_for (fitting32 (digits true word))
unfolding word_from
after_minus [] = refl
after_minus (byte ∷ word) = digits_ended true (byte ∷ word) 0

pub word_ends : (byte : ℕ) (word : List ℕ) → ended_of (word_from Empty (byte ∷ word)) ≡ ended_for (whole_of (byte ∷ word))
unfolding word_from whole_of
word_ends byte word = go (eqb byte 45) refl
  where
    go : (t : Bool) → eqb byte 45 ≡ t → ended_of (word_from Empty (byte ∷ word)) ≡ ended_for (fitting32 (signed (byte ∷ word)))
    go true e = rw e (after_minus word)
    go false e = rw e (digits_ended false (byte ∷ word) 0)
