-- A loop that writes a list into another, element by element (`paste` of lib.Seq says what it has written after n turns), stores behind stores,
-- and a loop that writes a list over all of another.
use Rattle.std.specs.Prelude.{ℕ, suc, ◌+◌, ◌<◌, ◌≤◌, ◌≡◌, List, [], ◌∷◌, ◌++◌, length, get_or, take, drop, set}
use Rattle.std.proofs.Common.{sym, ap, ◌∙◌, append-nil, arith, zero-add, add-zero, suc-add, add-suc, add-one, length-set, drop_of_length-le, take_at}
use Rattle.std.proofs.lemmas.List.Edits.{sets}
use Rattle.std.proofs.Math.Seq.{paste, paste-suc, take-length, drop-append-add}

module _ {A : Type 0} where
  -- d with its elements from index at on replaced by those of s
  abbrev pub written : List A → ℕ → List A → List A
  written d at s = take at d ++ s ++ drop (at + length s) d

  -- one turn: d is what i turns wrote, v the next element (z: what is read behind the last)
  pub one_more_lem : (z : A) (d₀ d : List A) (at : ℕ) (s : List A) (i : ℕ) (v : A) → d ≡ paste d₀ at s i → v ≡ get_or s i z → at + i < length d₀ → i < length s → set d (at + i) v ≡ paste d₀ at s (i + 1)
  one_more_lem z d₀ d at s i v e q h k = ap (λ (l : List A). set l (at + i) v) e ∙ ap (set (paste d₀ at s i) (at + i)) q ∙ paste-suc d₀ at s i z h k ∙ ap (paste d₀ at s) (sym (add-one i))

  -- the last turn's end
  pub all_written : (d₀ d : List A) (at : ℕ) (s : List A) (i : ℕ) → d ≡ paste d₀ at s i → i ≡ length s → d ≡ written d₀ at s
  all_written d₀ d at s i e q = e ∙ ap (paste d₀ at s) q ∙ ap (λ (l : List A). take at d₀ ++ l ++ drop (at + length s) d₀) (take-length s)

  -- a write just behind a first part
  pub behind : (p r : List A) (at : ℕ) (s : List A) → length p ≡ at → written (p ++ r) at s ≡ p ++ s ++ drop (length s) r
  behind p r at s e =
      ap (λ (l : List A). l ++ s ++ drop (at + length s) (p ++ r)) (take_at p r at e)
      ∙ ap (λ (n : ℕ). p ++ s ++ drop (n + length s) (p ++ r)) (sym e)
      ∙ ap (λ (l : List A). p ++ s ++ l) (drop-append-add p r (length s))

  -- the stores of two lists, one behind the other, are those of both in one
  pub sets_append : (d : List A) (at : ℕ) (xs ys : List A) → sets d at (xs ++ ys) ≡ sets (sets d at xs) (at + length xs) ys
  sets_append d at [] ys = ap (λ (n : ℕ). sets d n ys) (sym (add-zero at))
  sets_append d at (x ∷ xs) ys =
      sets_append (set d at x) (suc at) xs ys
      ∙ ap (λ (n : ℕ). sets (sets (set d at x) (suc at) xs) n ys) (suc-add at (length xs) ∙ sym (add-suc at (length xs)))

  -- ---- a loop that writes s over all of d₀, which is as long

  -- after i turns: d is d₀ with its first i elements replaced by those of s
  pub record WrittenSoFar (d₀ s d : List A) (i : ℕ) : Type 0 where
    pub within : i ≤ length d₀
    pub as_long : length d ≡ length d₀
    pub is_pasted : d ≡ paste d₀ 0 s i

  module _ {d₀ s d : List A} {i : ℕ} (same_length : length s ≡ length d₀) (so_far : WrittenSoFar d₀ s d i) where
    pub writing_turn : (z v : A) → i < length d → v ≡ get_or s i z → WrittenSoFar d₀ s (set d i v) (i + 1)
    writing_turn z v h e =
        let inside : i < length d₀ = omega (arith, so_far.as_long) in
        record {
          within = omega arith;
          as_long = length-set d i v ∙ so_far.as_long;
          is_pasted = rw (zero-add i) at (one_more_lem z d₀ d 0 s i v so_far.is_pasted e (omega arith) (omega arith));
        }

    pub writing_ends : length d ≤ i → d ≡ s
    writing_ends h =
        all_written d₀ d 0 s i so_far.is_pasted (omega (arith, so_far.within, so_far.as_long))
        ∙ ap (λ (l : List A). s ++ l) (drop_of_length-le d₀ {i = 0 + length s} (omega arith))
        ∙ append-nil s
