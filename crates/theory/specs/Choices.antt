-- A value where a test holds, else 0: laws of `on`, and of tests by themselves.
use Rattle.std.specs.Prelude.{◌≡◌, refl, Bool, true, false, not, ◌&&◌, ◌⊎◌, ℕ, zero, suc, ◌+◌, ◌≤◌, ◌<◌}
use Rattle.std.proofs.Common.{sym, ap, ◌∙◌, true≢false, inl, inr, eq-or-lt_of_le, arith}
use Rattle.std.proofs.Math.Nat.{suc_inj}
use Rattle.definitions.specs.Arithmetic.{on, sum_to}
use Rattle.laws.specs.Sum.{sum_zero}

pub on_monotone : (t : Bool) (v w : ℕ) → v ≤ w → on t v ≤ on t w
on_monotone true v w h = h
on_monotone false v w h = omega arith

pub on_zero : (t : Bool) → on t 0 ≡ 0
on_zero true = refl
on_zero false = refl

pub on_add : (t : Bool) (v w : ℕ) → on t (v + w) ≡ on t v + on t w
on_add true v w = refl
on_add false v w = refl

pub on_on : (s t : Bool) (v : ℕ) → on s (on t v) ≡ on t (on s v)
on_on true t v = refl
on_on false t v = sym (on_zero t)

pub on_and : (s t : Bool) (v : ℕ) → on (s && t) v ≡ on s (on t v)
on_and true t v = refl
on_and false t v = refl

pub on_sum : (t : Bool) (n : ℕ) (f : ℕ → ℕ) → on t (sum_to n f) ≡ sum_to n (λ i. on t (f i))
on_sum true n f = refl
on_sum false n f = sym (sum_zero n)

pub on_not : (t : Bool) (v : ℕ) → on t v + on (not t) v ≡ v
on_not true v = omega arith
on_not false v = omega arith

pub and_both : (s t : Bool) → (s && t) ≡ true → (s ≡ true) × (t ≡ true)
and_both true t e = (refl, e)
and_both false t e = absurd (true≢false (sym e))

pub and_made : (s t : Bool) → s ≡ true → t ≡ true → (s && t) ≡ true
and_made s t p q = rw (p, q) refl

-- some number below n that passes a test, or none
pub search : (n : ℕ) (P : ℕ → Bool) → ((i : ℕ) × (i < n) × (P i ≡ true)) ⊎ ((i : ℕ) → i < n → P i ≡ false)
search zero P = inr (λ i l. absurd (omega arith))
search (suc n) P = go (search n P) (P n) refl
  where
    go : ((i : ℕ) × (i < n) × (P i ≡ true)) ⊎ ((i : ℕ) → i < n → P i ≡ false) → (t : Bool) → P n ≡ t → ((i : ℕ) × (i < suc n) × (P i ≡ true)) ⊎ ((i : ℕ) → i < suc n → P i ≡ false)
    go (inl h) t e = inl (h.0, omega arith, h.2)
    go (inr h) true e = inl (n, omega arith, e)
    go (inr h) false e = inr (λ i l. last i (eq-or-lt_of_le l))
      where
        last : (i : ℕ) → (suc i ≡ suc n) ⊎ (suc i < suc n) → P i ≡ false
        last i (inl q) = ap P (suc_inj q) ∙ e
        last i (inr q) = h i (omega arith)
