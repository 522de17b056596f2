-- The least and the greatest of a function over an index, and the greatest of numbers in groups (`max_of_groups`).
use Rattle.std.specs.Prelude.{◌≡◌, refl, Bool, true, false, ◌⊎◌, ℕ, zero, suc, ◌≤◌, ◌<◌, min, max, eqb}
use Rattle.std.proofs.Common.{ap, ap₂, ◌∙◌, inl, inr, arith, eq-or-lt_of_le, eqb-true, eq-eqb}
use Rattle.std.proofs.Math.Nat.{suc_inj}
use Rattle.std.proofs.Math.Decide.{dec_le}
use Rattle.definitions.specs.Arithmetic.{on}

-- the least of d and f 0, .., f (k - 1).
unfoldable pub min_to : ℕ → ℕ → (ℕ → ℕ) → ℕ
min_to d zero f = d
min_to d (suc k) f = min (min_to d k f) (f k)

pub min_le_start : (d k : ℕ) (f : ℕ → ℕ) → min_to d k f ≤ d
unfolding min_to
min_le_start d zero f = omega arith
min_le_start d (suc k) f = omega (arith, min_le_start d k f)

pub min_le_at : (d k : ℕ) (f : ℕ → ℕ) (i : ℕ) → i < k → min_to d k f ≤ f i
unfolding min_to
min_le_at d zero f i l = omega arith
min_le_at d (suc k) f i l = go (eq-or-lt_of_le l) (λ l'. min_le_at d k f i l')
  where
    go : (suc i ≡ suc k) ⊎ (suc i < suc k) → (i < k → min_to d k f ≤ f i) → min (min_to d k f) (f k) ≤ f i
    go (inl p) ih = omega (arith, ap f (suc_inj p))
    go (inr p) ih = omega (arith, ih (omega arith))

pub min_attained : (d k : ℕ) (f : ℕ → ℕ) → (min_to d k f ≡ d) ⊎ ((i : ℕ) × (i < k) × (min_to d k f ≡ f i))
unfolding min_to
min_attained d zero f = inl refl
min_attained d (suc k) f = go (min_attained d k f) (dec_le (min_to d k f) (f k))
  where
    go : (min_to d k f ≡ d) ⊎ ((i : ℕ) × (i < k) × (min_to d k f ≡ f i)) → Dec (min_to d k f ≤ f k) → (min (min_to d k f) (f k) ≡ d) ⊎ ((i : ℕ) × (i < suc k) × (min (min_to d k f) (f k) ≡ f i))
    go a (no q) = inr (k, omega arith, omega arith)
    go (inl p) (yes q) = inl (omega arith)
    go (inr p) (yes q) = inr (p.0, omega arith, omega arith)

pub min_ext : (d k : ℕ) (f h : ℕ → ℕ) → ((i : ℕ) → i < k → f i ≡ h i) → min_to d k f ≡ min_to d k h
unfolding min_to
min_ext d zero f h e = refl
min_ext d (suc k) f h e = ap₂ min (min_ext d k f h (λ i l. e i (omega arith))) (e k (omega arith))

-- the greatest of f 0, .., f (k - 1), or 0
unfoldable pub max_to : ℕ → (ℕ → ℕ) → ℕ
max_to zero f = 0
max_to (suc k) f = max (max_to k f) (f k)

pub max_ext : (k : ℕ) (f h : ℕ → ℕ) → ((i : ℕ) → i < k → f i ≡ h i) → max_to k f ≡ max_to k h
unfolding max_to
max_ext zero f h e = refl
max_ext (suc k) f h e = ap₂ max (max_ext k f h (λ i l. e i (omega arith))) (e k (omega arith))

pub max_ge_at : (k : ℕ) (f : ℕ → ℕ) (i : ℕ) → i < k → f i ≤ max_to k f
unfolding max_to
max_ge_at zero f i l = absurd (omega arith)
max_ge_at (suc k) f i l = go (eq-or-lt_of_le l) (λ l'. max_ge_at k f i l')
  where
    go : (suc i ≡ suc k) ⊎ (suc i < suc k) → (i < k → f i ≤ max_to k f) → f i ≤ max (max_to k f) (f k)
    go (inl p) ih = omega (arith, ap f (suc_inj p))
    go (inr p) ih = omega (arith, ih (omega arith))

pub max_below : (k : ℕ) (f : ℕ → ℕ) (b : ℕ) → ((i : ℕ) → i < k → f i ≤ b) → max_to k f ≤ b
unfolding max_to
max_below zero f b h = omega arith
max_below (suc k) f b h = omega (arith, max_below k f b (λ i l. h i (omega arith)), h k (omega arith))

-- the greatest of numbers that are equal where a test holds, which it does at k
pub max_of_same : (n : ℕ) (t : ℕ → Bool) (x : ℕ → ℕ) (k : ℕ) → k < n → t k ≡ true → ((i : ℕ) → i < n → t i ≡ true → x i ≡ x k) → max_to n (λ i. on (t i) (x i)) ≡ x k
max_of_same n t x k l e same =
    omega (arith, max_below n (λ i. on (t i) (x i)) (x k) (λ i r. below i (t i) (same i r)), rw e at (max_ge_at n (λ i. on (t i) (x i)) k l))
  where
    below : (i : ℕ) (u : Bool) → (u ≡ true → x i ≡ x k) → on u (x i) ≤ x k
    below i true h = omega (arith, h refl)
    below i false h = omega arith

-- n numbers v in m groups: the greatest over the groups that pass a test of the greatest in each is the greatest of those whose group passes it
module _ (n m : ℕ) (group v : ℕ → ℕ) (t : ℕ → Bool) (below : (i : ℕ) → i < n → group i < m) where
  -- the greatest in a group
  abbrev of_group : ℕ → ℕ
  of_group q = max_to n (λ i. on (eqb (group i) q) (v i))

  by_groups : ℕ
  by_groups = max_to m (λ q. on (t q) (of_group q))

  by_numbers : ℕ
  by_numbers = max_to n (λ i. on (t (group i)) (v i))

  on_below : (x : Bool) (u b : ℕ) → (x ≡ true → u ≤ b) → on x u ≤ b
  on_below true u b h = h refl
  on_below false u b h = omega arith

  number_below : (i : ℕ) → i < n → on (t (group i)) (v i) ≤ by_groups
  unfolding by_groups
  number_below i l =
      on_below (t (group i)) (v i) by_groups (λ e.
      let in-all = max_ge_at m (λ q. on (t q) (of_group q)) (group i) (below i l) in
      let in-group = max_ge_at n (λ j. on (eqb (group j) (group i)) (v j)) i l in
      omega (arith, rw e at in-all, rw (eq-eqb (group i) (group i) refl) at in-group))

  group_below : (q : ℕ) → q < m → on (t q) (of_group q) ≤ by_numbers
  unfolding by_numbers
  group_below q _ =
      on_below (t q) (of_group q) by_numbers (λ e. max_below n (λ i. on (eqb (group i) q) (v i)) by_numbers (λ i l.
      on_below (eqb (group i) q) (v i) by_numbers (λ z.
      let same : t (group i) ≡ true = ap t (eqb-true (group i) q z) ∙ e in
      let in-all = max_ge_at n (λ j. on (t (group j)) (v j)) i l in
      omega (arith, rw same at in-all))))

  pub max_of_groups : max_to m (λ q. on (t q) (max_to n (λ i. on (eqb (group i) q) (v i)))) ≡ max_to n (λ i. on (t (group i)) (v i))
  unfolding by_groups by_numbers
  max_of_groups = omega (arith, max_below m (λ q. on (t q) (of_group q)) by_numbers group_below, max_below n (λ i. on (t (group i)) (v i)) by_groups number_below)
