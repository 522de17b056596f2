-- Tests over an index that all hold: at each, from each, as a loop meets them, and those of a table row by row (`all_to_rows`).
use Rattle.std.specs.Prelude.{ℕ, zero, suc, ◌+◌, ◌*◌, ◌<◌, ◌≡◌, refl, Bool, true, false, ◌&&◌, ◌⊎◌}
use Rattle.std.proofs.Common.{sym, ap, ap₂, ◌∙◌, true≢false, inl, inr, arith, eq-or-lt_of_le, add-zero, add-suc, zero-mul, suc-mul, add-one}
use Rattle.std.proofs.Math.Bool.{and-true, and_assoc}
use Rattle.std.proofs.Math.Nat.{suc_inj}
use Rattle.definitions.specs.Arithmetic.{all_to}
use Rattle.std.specs.Cmp.{first_so, second_so}
use Rattle.laws.specs.Tests.{is_false}

pub all_to_at : (n : ℕ) (t : ℕ → Bool) → all_to n t ≡ true → (i : ℕ) → i < n → t i ≡ true
unfolding all_to
all_to_at zero t e i l = absurd (omega arith)
all_to_at (suc n) t e i l = go (eq-or-lt_of_le l) (λ l'. all_to_at n t (first_so (all_to n t) (t n) e) i l')
  where
    go : (suc i ≡ suc n) ⊎ (suc i < suc n) → (i < n → t i ≡ true) → t i ≡ true
    go (inl p) ih = ap t (suc_inj p) ∙ second_so (all_to n t) (t n) e
    go (inr p) ih = ih (omega arith)

pub all_to_made : (n : ℕ) (t : ℕ → Bool) → ((i : ℕ) → i < n → t i ≡ true) → all_to n t ≡ true
unfolding all_to
all_to_made zero t h = refl
all_to_made (suc n) t h = rw (all_to_made n t (λ i l. h i (omega arith)), h n (omega arith)) refl

pub all_to_ext : (n : ℕ) (s t : ℕ → Bool) → ((i : ℕ) → i < n → s i ≡ t i) → all_to n s ≡ all_to n t
unfolding all_to
all_to_ext zero s t e = refl
all_to_ext (suc n) s t e = ap₂ ◌&&◌ (all_to_ext n s t (λ i l. e i (omega arith))) (e n (omega arith))

-- ---- a loop that leaves at the first test that fails

pub all_to_begins : (t : ℕ → Bool) → all_to 0 t ≡ true
unfolding all_to
all_to_begins t = refl

pub all_to_turn : (i : ℕ) (t : ℕ → Bool) → all_to i t ≡ true → t i ≡ true → all_to (i + 1) t ≡ true
unfolding all_to
all_to_turn i t e h = rw (add-one i) (rw (e, h) refl)

pub all_to_fails : (n : ℕ) (t : ℕ → Bool) (i : ℕ) → i < n → t i ≡ false → all_to n t ≡ false
all_to_fails n t i l e = is_false (all_to n t) (λ h. true≢false (sym (all_to_at n t h i l) ∙ e))

-- ---- a table row by row is the table as it stands

all_to_append : (k m : ℕ) (t : ℕ → Bool) → all_to (k + m) t ≡ (all_to k t && all_to m (λ c. t (k + c)))
unfolding all_to
all_to_append k zero t = rw (add-zero k) (sym (and-true (all_to k t)))
all_to_append k (suc m) t = rw (add-suc k m) (ap (λ (x : Bool). x && t (k + m)) (all_to_append k m t) ∙ and_assoc (all_to k t) (all_to m (λ c. t (k + c))) (t (k + m)))

pub all_to_rows : (a m : ℕ) (t : ℕ → Bool) → all_to (a * m) t ≡ all_to a (λ r. all_to m (λ c. t (r * m + c)))
unfolding all_to
all_to_rows zero m t = rw (zero-mul m) refl
all_to_rows (suc a) m t = rw (suc-mul a m) (all_to_append (a * m) m t ∙ ap (λ (x : Bool). x && all_to m (λ c. t (a * m + c))) (all_to_rows a m t))
