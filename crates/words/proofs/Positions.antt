-- Words by position: where one is 0, where a slice ends, which words are bytes.
use Rattle.std.proofs.Common.{ℕ, zero, suc, ◌+◌, ◌*◌, ◌-◌, ◌<◌, ◌≤◌, ◌≡◌, refl, sym, ap, ◌∙◌, List, [], length, Bool, true, false, Some, None, is_some, lt-ltb, le-ltb, leb, add-one, min, get_or, drop, arith, w32}
use Rattle.std.proofs.lemmas.List.{get_or-take, get_or-drop}
use Rattle.std.specs.Bool.{then_some}
use Rattle.std.specs.Int.{from_le_bytes}
use Rattle.std.specs.Simd.{first_chunks}
use Rattle.laws.specs.Tests.{Lt?, less, more, lt?}
use Rattle.words.specs.Words.{word_count, word_at, after_slice, after_slices, are_bytes, after_bytes}

-- ---- A word

-- byte j of chunk k
chunk_byte : (input : List ℕ) (m k j : ℕ) → k < m → j < 4 → get_or (get_or (first_chunks 4 m input) k []) j 0 ≡ get_or input (4 * k + j) 0
chunk_byte input zero k j h q = elim h [ ]
chunk_byte input (suc m) zero j h q = get_or-take 4 input j 0 q ∙ ap (λ (i : ℕ). get_or input i 0) (let e : j ≡ 4 * 0 + j = omega arith in e)
chunk_byte input (suc m) (suc k) j h q =
    chunk_byte (drop 4 input) m k j (omega arith) q ∙ get_or-drop 4 input (4 * k + j) 0 ∙ ap (λ (i : ℕ). get_or input i 0) (let e : 4 + (4 * k + j) ≡ 4 * suc k + j = omega arith in e)

pub word_within : (input : List ℕ) (k : ℕ) (bytes : List ℕ) → k < word_count input → bytes ≡ get_or (first_chunks 4 (word_count input) input) k [] → from_le_bytes w32 bytes ≡ word_at input k
unfolding word_at
word_within input k bytes h e =
    let byte : (j : ℕ) → j < 4 → get_or (get_or (first_chunks 4 (word_count input) input) k []) j 0 ≡ get_or input (4 * k + j) 0 = λ j q. chunk_byte input (word_count input) k j h q in
    let here : 4 * k + 0 ≡ 4 * k = omega arith in
    rw (e, lt-ltb k (word_count input) h, byte 0 (omega arith), byte 1 (omega arith), byte 2 (omega arith), byte 3 (omega arith), here) (omega arith)

pub word_behind : (input : List ℕ) (k : ℕ) → word_count input ≤ k → 0 ≡ word_at input k
unfolding word_at
word_behind input k h = simp (le-ltb k (word_count input) h)

-- a position that is capped beyond the bytes has the same word
pub word_capped : (input : List ℕ) (k most : ℕ) → length input ≤ most → word_at input (min k most) ≡ word_at input k
word_capped input k most h = go (lt? most k)
  where
    go : {t : Bool} → Lt? most k t → word_at input (min k most) ≡ word_at input k
    go (less q) = sym (word_behind input (min k most) (omega arith)) ∙ word_behind input k (omega arith)
    go (more q) = ap (word_at input) (let e : min k most ≡ k = omega arith in e)

-- ---- A slice

pub missing_length : (input : List ℕ) (at : ℕ) → word_count input ≤ at → None ≡ after_slice input at
unfolding after_slice
missing_length input at h = rw (le-ltb at (word_count input) h) refl

pub slice_here : (input : List ℕ) (at end : ℕ) → at < word_count input → end ≡ at + 1 + word_at input at → then_some (leb end (word_count input)) end ≡ after_slice input at
unfolding after_slice
slice_here input at end h e = rw (e, lt-ltb at (word_count input) h) refl

given_then : (test : Bool) (given end : ℕ) → Some end ≡ then_some test given → end ≡ given
given_then true given end e = cc
given_then false given end e = cc

-- a slice ends behind its length
pub slice_end : (input : List ℕ) (at end : ℕ) → Some end ≡ after_slice input at → at < end
unfolding after_slice
slice_end input at end e = omega (arith, given_then _ _ _ e)

-- one slice more
pub one_slice : (input : List ℕ) (at i end : ℕ) → after_slices input at i ≡ Some end → after_slices input at (i + 1) ≡ after_slice input end
unfolding after_slices
one_slice input at i end e = rw (add-one, after_slices, e) refl

-- where words are missing, they are missing for more slices too
pub none_behind : (input : List ℕ) (at i n : ℕ) → after_slices input at i ≡ None → i ≤ n → after_slices input at n ≡ None
unfolding after_slices
none_behind input at i zero e h = let q : i ≡ 0 = omega arith in rw q at e
none_behind input at i (suc n) e h = go (lt? n i) (none_behind input at i n e)
  where
    go : {t : Bool} → Lt? n i t → (i ≤ n → after_slices input at n ≡ None) → after_slices input at (suc n) ≡ None
    go (less q) before = let r : i ≡ suc n = omega arith in rw r at e
    go (more q) before = rw (before q) refl

-- ---- Bytes

next_count : (to k : ℕ) → k < to → to - k ≡ suc (to - (k + 1))
next_count to k h = omega arith

pub none_left : (input : List ℕ) (to k : ℕ) → to ≤ k → true ≡ are_bytes input k (to - k)
unfolding are_bytes
none_left input to k h = rw (let q : to - k ≡ 0 = omega arith in q) refl

pub one_byte : (input : List ℕ) (to k : ℕ) → k < to → word_at input k < 256 → are_bytes input k (to - k) ≡ are_bytes input (k + 1) (to - (k + 1))
unfolding are_bytes
one_byte input to k h b = rw (next_count to k h, lt-ltb (word_at input k) 256 b) refl

pub no_byte : (input : List ℕ) (to k : ℕ) → k < to → 256 ≤ word_at input k → false ≡ are_bytes input k (to - k)
unfolding are_bytes
no_byte input to k h b = rw (next_count to k h, le-ltb (word_at input k) 256 b) refl

-- the position behind them, by where the slice ends and whether its words are bytes
pub bytes_missing : (input : List ℕ) (at : ℕ) → None ≡ after_slice input at → None ≡ after_bytes input at
unfolding after_bytes
bytes_missing input at e = rw (← e) refl

pub bytes_here : (input : List ℕ) (at end : ℕ) → Some end ≡ after_slice input at → then_some (are_bytes input (at + 1) (end - (at + 1))) end ≡ after_bytes input at
unfolding after_bytes
bytes_here input at end e = rw (← e) refl

-- ---- Which input is that of a call

pub is_some_then : {A : Type 0} (test : Bool) (given : A) → is_some (then_some test given) ≡ test
is_some_then true given = refl
is_some_then false given = refl
