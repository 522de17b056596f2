-- Tests over an index of which some holds; where they hold at one index only, that one decides (`any_to_one`).
use Rattle.std.specs.Prelude.{ℕ, zero, suc, ◌<◌, ◌≡◌, refl, Bool, true, ◌&&◌, ◌||◌, ◌⊎◌, eqb}
use Rattle.std.proofs.Common.{sym, ap, ◌∙◌, true≢false, inl, inr, arith, eq-or-lt_of_le, eqb-true, eq-eqb}
use Rattle.std.proofs.Math.Nat.{suc_inj}
use Rattle.std.proofs.lemmas.Bool.{or_left, or_right, or_cases}
use Rattle.definitions.specs.Arithmetic.{any_to}
use Rattle.std.specs.Cmp.{first_so, second_so, both_ways}

pub any_to_made : (n : ℕ) (t : ℕ → Bool) (i : ℕ) → i < n → t i ≡ true → any_to n t ≡ true
unfolding any_to
any_to_made zero t i l e = absurd (omega arith)
any_to_made (suc n) t i l e = go (eq-or-lt_of_le l) (λ l'. any_to_made n t i l' e)
  where
    go : (suc i ≡ suc n) ⊎ (suc i < suc n) → (i < n → any_to n t ≡ true) → (any_to n t || t n) ≡ true
    go (inl p) ih = or_right (any_to n t) (t n) (ap t (sym (suc_inj p)) ∙ e)
    go (inr p) ih = or_left (any_to n t) (t n) (ih (omega arith))

pub any_to_some : (n : ℕ) (t : ℕ → Bool) → any_to n t ≡ true → (i : ℕ) × (i < n) × (t i ≡ true)
unfolding any_to
any_to_some zero t e = absurd (true≢false (sym e))
any_to_some (suc n) t e = go (or_cases (any_to n t) (t n) e) (any_to_some n t)
  where
    go : (any_to n t ≡ true) ⊎ (t n ≡ true) → (any_to n t ≡ true → (i : ℕ) × (i < n) × (t i ≡ true)) → (i : ℕ) × (i < suc n) × (t i ≡ true)
    go (inl x) ih = let found = ih x in (found.0, omega (arith, found.1), found.2)
    go (inr x) ih = (n, omega arith, x)

-- where the tests hold at index a alone, and there if s does
pub any_to_one : (a : ℕ) (s t : ℕ → Bool) (n : ℕ) → a < n → ((i : ℕ) → i < n → t i ≡ (eqb a i && s i)) → any_to n t ≡ s a
any_to_one a s t n l h = both_ways (any_to n t) (s a) says (λ e. any_to_made n t a l (h a l ∙ rw (eq-eqb a a refl) e))
  where
    says : any_to n t ≡ true → s a ≡ true
    says e =
        let found = any_to_some n t e in
        let both : (eqb a found.0 && s found.0) ≡ true = sym (h found.0 found.1) ∙ found.2 in
        ap s (eqb-true a found.0 (first_so (eqb a found.0) (s found.0) both)) ∙ second_so (eqb a found.0) (s found.0) both
