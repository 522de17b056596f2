-- A strict total order on the numbers below n, and dictionary order along it: two lists of amounts are equal or have a first difference.
use Rattle.std.specs.Prelude.{◌≡◌, refl, Bool, true, false, ◌≢◌, ◌⊎◌, ℕ, zero, suc, ◌≤◌, ◌<◌, eqb}
use Rattle.std.proofs.Common.{sym, ap, ◌∙◌, inl, inr, eq-or-lt_of_le, eqb-true, arith}
use Rattle.std.proofs.Math.Nat.{suc_inj}
use Rattle.std.proofs.Math.Decide.{ℕ_discrete}
use Rattle.std.proofs.lemmas.Bool.{eqb-false}
use Rattle.definitions.specs.Arithmetic.{on, sum_to}
use Rattle.laws.specs.Tests.{on_le}
use Rattle.laws.specs.Sum.{sum_le, sum_le_at}
use Rattle.theory.specs.Choices.{search}

-- a strict total order of the numbers below n
pub record StrictTotal (n : ℕ) (before : ℕ → ℕ → Bool) : Type 0 where
  pub irreflexive : (i : ℕ) → i < n → before i i ≡ false
  pub transitive : (i j k : ℕ) → i < n → j < n → k < n → before i j ≡ true → before j k ≡ true → before i k ≡ true
  pub connected : (i j : ℕ) → i < n → j < n → i ≢ j → (before i j ≡ true) ⊎ (before j i ≡ true)

-- the place of i: how many come before it
unfoldable pub place : ℕ → (ℕ → ℕ → Bool) → ℕ → ℕ
place n before i = sum_to n (λ j. on (before j i) 1)

on_if : (x y : Bool) → (x ≡ true → y ≡ true) → on x 1 ≤ on y 1
on_if true y h = rw (h refl) (omega arith)
on_if false y h = omega arith

sum_ones : (n : ℕ) → sum_to n (λ i. 1) ≡ n
unfolding sum_to
sum_ones zero = refl
sum_ones (suc n) = omega (arith, sum_ones n)

module _ (n : ℕ) (before : ℕ → ℕ → Bool) (o : StrictTotal n before) where
  pub place_le : (i : ℕ) → place n before i ≤ n
  unfolding place
  place_le i = omega (arith, sum_le n (λ j. on (before j i) 1) (λ j. 1) (λ j l. on_le (before j i) 1), sum_ones n)

  pub place_lt : (i j : ℕ) → i < n → j < n → before i j ≡ true → place n before i < place n before j
  unfolding place
  place_lt i j l r h =
      omega (
        arith,
        sum_le_at n (λ k. on (before k i) 1) (λ k. on (before k j) 1) 1 i l (rw (o.irreflexive i l, h) (omega arith))
            (λ k q. on_if (before k i) (before k j) (λ e. o.transitive k i j q l r e h)),
      )

  pub place_before : (i j : ℕ) → i < n → j < n → place n before i < place n before j → before i j ≡ true
  place_before i j l r h = go (ℕ_discrete i j)
    where
      pick : (before i j ≡ true) ⊎ (before j i ≡ true) → before i j ≡ true
      pick (inl e) = e
      pick (inr e) = absurd (omega (arith, place_lt j i r l e))

      go : Dec (i ≡ j) → before i j ≡ true
      go (yes p) = absurd (omega (arith, ap (place n before) p))
      go (no p) = pick (o.connected i j l r p)

  pub place_inj : (i j : ℕ) → i < n → j < n → place n before i ≡ place n before j → i ≡ j
  place_inj i j l r h = go (ℕ_discrete i j)
    where
      pick : (before i j ≡ true) ⊎ (before j i ≡ true) → i ≡ j
      pick (inl e) = absurd (omega (arith, place_lt i j l r e))
      pick (inr e) = absurd (omega (arith, place_lt j i r l e))

      go : Dec (i ≡ j) → i ≡ j
      go (yes p) = p
      go (no p) = pick (o.connected i j l r p)

-- some i with f i ≡ k, or none
pub find : (n : ℕ) (f : ℕ → ℕ) (k : ℕ) → ((i : ℕ) × (i < n) × (f i ≡ k)) ⊎ ((i : ℕ) → i < n → f i ≢ k)
find n f k = go (search n (λ i. eqb (f i) k))
  where
    go : ((i : ℕ) × (i < n) × (eqb (f i) k ≡ true)) ⊎ ((i : ℕ) → i < n → eqb (f i) k ≡ false) → ((i : ℕ) × (i < n) × (f i ≡ k)) ⊎ ((i : ℕ) → i < n → f i ≢ k)
    go (inl h) = inl (h.0, h.1, eqb-true (f h.0) k h.2)
    go (inr h) = inr (λ i l. eqb-false (f i) k (h i l))

module _ (n : ℕ) (before : ℕ → ℕ → Bool) (o : StrictTotal n before) where
  -- y and x are equal at all that comes before i
  abbrev pub EqualBefore : (y x : ℕ → ℕ) → ℕ → Type 0
  EqualBefore y x i = (j : ℕ) → j < n → before j i ≡ true → y j ≡ x j

  -- i is the first at which y and x differ
  abbrev pub FirstDifference : (y x : ℕ → ℕ) → Type 0
  FirstDifference y x = (i : ℕ) × (i < n) × (y i ≢ x i) × EqualBefore y x i

  -- at the first k places: equal, or with a first difference
  difference_below : (y x : ℕ → ℕ) (k : ℕ) → ((i : ℕ) → i < n → place n before i < k → y i ≡ x i) ⊎ FirstDifference y x
  difference_below y x zero = inl (λ i l h. absurd (omega arith))
  difference_below y x (suc k) = go (difference_below y x k) (find n (place n before) k)
    where
      Same : ℕ → Type 0
      Same k = (i : ℕ) → i < n → place n before i < k → y i ≡ x i

      here : Same k → (i : ℕ) → i < n → place n before i ≡ k → Dec (y i ≡ x i) → Same (suc k) ⊎ FirstDifference y x
      here below i l e (no q) = inr (i, l, q, λ j r h. below j r (omega (arith, e, place_lt n before o j i r l h)))
      here below i l e (yes q) = inl (λ j r h. last j r (eq-or-lt_of_le h))
        where
          last : (j : ℕ) → j < n → (suc (place n before j) ≡ suc k) ⊎ (suc (place n before j) < suc k) → y j ≡ x j
          last j r (inl p) = let s : j ≡ i = place_inj n before o j i r l (suc_inj p ∙ sym e) in ap y s ∙ q ∙ sym (ap x s)
          last j r (inr p) = below j r (omega arith)

      go : Same k ⊎ FirstDifference y x → ((i : ℕ) × (i < n) × (place n before i ≡ k)) ⊎ ((i : ℕ) → i < n → place n before i ≢ k) → Same (suc k) ⊎ FirstDifference y x
      go (inr d) f = inr d
      go (inl below) (inl f) = here below f.0 f.1 f.2 (ℕ_discrete (y f.0) (x f.0))
      go (inl below) (inr none) = inl (λ i l h. below i l (omega (arith, none i l)))

  -- equal everywhere, or with a first difference
  pub first_difference : (y x : ℕ → ℕ) → ((i : ℕ) → i < n → y i ≡ x i) ⊎ FirstDifference y x
  first_difference y x = go (difference_below y x (suc n))
    where
      go : ((i : ℕ) → i < n → place n before i < suc n → y i ≡ x i) ⊎ FirstDifference y x → ((i : ℕ) → i < n → y i ≡ x i) ⊎ FirstDifference y x
      go (inl h) = inl (λ i l. h i l (omega (arith, place_le n before o i)))
      go (inr d) = inr d

  -- no two lists of amounts are each less than the other at a first difference
  pub not_both_less : (y x : ℕ → ℕ) (i j : ℕ) → i < n → j < n → y i < x i → x j < y j → EqualBefore y x i → EqualBefore x y j → ⊥
  not_both_less y x i j l r p q e f = go (ℕ_discrete i j)
    where
      ordered : (before i j ≡ true) ⊎ (before j i ≡ true) → ⊥
      ordered (inl h) = omega (arith, f i l h)
      ordered (inr h) = omega (arith, e j r h)

      go : Dec (i ≡ j) → ⊥
      go (yes s) = omega (arith, ap y s, ap x s)
      go (no s) = ordered (o.connected i j l r s)
