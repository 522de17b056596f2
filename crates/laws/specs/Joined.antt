-- Lists of one length, one after another: how long they are (`parts_length`), and where each entry stands (`parts_entry`); and lists of one entry each.
use Rattle.std.specs.Prelude.{◌≡◌, refl, Bool, ℕ, zero, suc, ◌+◌, ◌*◌, ◌<◌, List, [], ◌∷◌, ◌++◌, length, get_or}
use Rattle.std.proofs.Common.{sym, ap, ◌∙◌, arith, length-append, get_or-append-add}
use Rattle.std.proofs.lemmas.List.{get_or_append_left}
use Rattle.std.proofs.Math.Arith.{digits_lt}
use Rattle.definitions.specs.Arithmetic.{join_to}
use Rattle.laws.specs.Tests.{Lt?, less, more, lt?}

module _ {A : Type 0} (n : ℕ) (part : ℕ → List A) (long : (j : ℕ) → length (part j) ≡ n) where
  pub parts_length : (k : ℕ) → length (join_to k part) ≡ k * n
  unfolding join_to
  parts_length zero = omega arith
  parts_length (suc k) = length-append (join_to k part) (part k) ∙ omega (arith, parts_length k, long k)

  -- entry i of part j
  pub parts_entry : (d : A) (k j i : ℕ) → j < k → i < n → get_or (join_to k part) (j * n + i) d ≡ get_or (part j) i d
  unfolding join_to
  parts_entry d zero j i l h = absurd (omega arith)
  parts_entry d (suc k) j i l h = go (lt? j k) (λ b. parts_entry d k j i b h)
    where
      go : {t : Bool} → Lt? j k t → (j < k → get_or (join_to k part) (j * n + i) d ≡ get_or (part j) i d)
          → get_or (join_to k part ++ part k) (j * n + i) d ≡ get_or (part j) i d
      go (less b) ih = get_or_append_left (join_to k part) (part k) d (j * n + i) (omega (arith, parts_length k, digits_lt b h)) ∙ ih b
      go (more b) ih =
          let e : j ≡ k = omega arith in
          rw e (ap (λ (at : ℕ). get_or (join_to k part ++ part k) (at + i) d) (sym (parts_length k)) ∙ get_or-append-add (join_to k part) (part k) i d)

-- of one entry each
pub joined_length : {A : Type 0} (n : ℕ) (f : ℕ → A) → length (join_to n (λ i. f i ∷ [])) ≡ n
joined_length n f = parts_length 1 (λ i. f i ∷ []) (λ j. refl) n ∙ omega arith

pub joined_entry : {A : Type 0} (n : ℕ) (f : ℕ → A) (d : A) (i : ℕ) → i < n → get_or (join_to n (λ i. f i ∷ [])) i d ≡ f i
joined_entry n f d i l =
    ap (λ (at : ℕ). get_or (join_to n (λ j. f j ∷ [])) at d) (let e : i ≡ i * 1 + 0 = omega arith in e)
    ∙ parts_entry 1 (λ j. f j ∷ []) (λ j. refl) d n i 0 l (omega arith)
