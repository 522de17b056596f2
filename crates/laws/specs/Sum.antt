-- Sums over an index.
use Rattle.std.specs.Prelude.{◌≡◌, refl, Bool, ◌≢◌, ◌⊎◌, ℕ, zero, suc, ◌+◌, ◌*◌, ◌-◌, ◌≤◌, ◌<◌, eqb, ℤ, ◌+ℤ◌}
use Rattle.std.proofs.Common.{sym, ap, ap₂, subst, inl, inr, arith, eq-or-lt_of_le, add-zero, add-suc, add-one}
use Rattle.definitions.specs.Arithmetic.{on, sum_to, sum_z}
use Rattle.laws.specs.Tests.{Eq?, same, diff, eq?}

pub sum_none : (f : ℕ → ℕ) → sum_to 0 f ≡ 0
unfolding sum_to
sum_none f = refl

-- one term more, at the code's n + 1
pub sum_next : (n : ℕ) (f : ℕ → ℕ) → sum_to (n + 1) f ≡ sum_to n f + f n
unfolding sum_to
sum_next n f = rw (add-one n) refl

pub sum_ext : (n : ℕ) (f h : ℕ → ℕ) → ((i : ℕ) → i < n → f i ≡ h i) → sum_to n f ≡ sum_to n h
unfolding sum_to
sum_ext zero f h e = refl
sum_ext (suc n) f h e =
    let a = sum_ext n f h (λ i l. e i (omega arith)) in
    omega (arith, e n (omega arith))

pub sum_z_ext : (n : ℕ) (f h : ℕ → ℤ) → ((i : ℕ) → i < n → f i ≡ h i) → sum_z n f ≡ sum_z n h
unfolding sum_z
sum_z_ext zero f h e = refl
sum_z_ext (suc n) f h e = ap₂ ◌+ℤ◌ (sum_z_ext n f h (λ i l. e i (omega arith))) (e n (omega arith))

pub sum_le : (n : ℕ) (f h : ℕ → ℕ) → ((i : ℕ) → i < n → f i ≤ h i) → sum_to n f ≤ sum_to n h
unfolding sum_to
sum_le zero f h e = omega arith
sum_le (suc n) f h e =
    let a = sum_le n f h (λ i l. e i (omega arith)) in
    omega (arith, e n (omega arith))

pub sum_zero : (n : ℕ) → sum_to n (λ i. 0) ≡ 0
unfolding sum_to
sum_zero zero = refl
sum_zero (suc n) = omega (arith, sum_zero n)

pub sum_add : (n : ℕ) (f h : ℕ → ℕ) → sum_to n (λ i. f i + h i) ≡ sum_to n f + sum_to n h
unfolding sum_to
sum_add zero f h = refl
sum_add (suc n) f h = omega (arith, sum_add n f h)

pub sum_add4 : (n : ℕ) (f h k l : ℕ → ℕ) → sum_to n (λ i. f i + h i + k i + l i) ≡ sum_to n f + sum_to n h + sum_to n k + sum_to n l
unfolding sum_to
sum_add4 zero f h k l = refl
sum_add4 (suc n) f h k l = omega (arith, sum_add4 n f h k l)

-- one place gives d more
pub sum_le_at : (n : ℕ) (f h : ℕ → ℕ) (d k : ℕ) → k < n → f k + d ≤ h k → ((i : ℕ) → i < n → f i ≤ h i) → sum_to n f + d ≤ sum_to n h
unfolding sum_to
sum_le_at zero f h d k l q e = omega arith
sum_le_at (suc n) f h d k l q e = go (eq-or-lt_of_le l) (λ l'. sum_le_at n f h d k l' q (λ i r. e i (omega arith)))
  where
    go : (suc k ≡ suc n) ⊎ (suc k < suc n) → (k < n → sum_to n f + d ≤ sum_to n h) → sum_to n f + f n + d ≤ sum_to n h + h n
    go (inl p) ih =
        let p' : k ≡ n = omega arith in
        let q' = subst (λ (z : ℕ). f z + d ≤ h z) p' q in
        omega (arith, sum_le n f h (λ i r. e i (omega arith)))
    go (inr p) ih = omega (arith, ih (omega arith), e n (omega arith))

pub sum_swap : (n m : ℕ) (f : ℕ → ℕ → ℕ) → sum_to n (λ i. sum_to m (λ j. f i j)) ≡ sum_to m (λ j. sum_to n (λ i. f i j))
unfolding sum_to
sum_swap zero m f = sym (sum_zero m)
sum_swap (suc n) m f = omega (arith, sum_swap n m f, sum_add m (λ j. sum_to n (λ i. f i j)) (λ j. f n j))

-- bounds: a part of a sum, and of its terms
pub sum_part : (k d : ℕ) (f : ℕ → ℕ) → sum_to k f ≤ sum_to (k + d) f
unfolding sum_to
sum_part k zero f = rw (add-zero k) (omega arith)
sum_part k (suc d) f = rw (add-suc k d) (omega (arith, sum_part k d f))

pub sum_prefix : (k n : ℕ) (f : ℕ → ℕ) → k ≤ n → sum_to k f ≤ sum_to n f
sum_prefix k n f l = let e : k + (n - k) ≡ n = omega arith in rw e at (sum_part k (n - k) f)

pub sum_bound : (n c : ℕ) (f : ℕ → ℕ) → ((i : ℕ) → i < n → f i ≤ c) → sum_to n f ≤ n * c
unfolding sum_to
sum_bound zero c f h = omega arith
sum_bound (suc n) c f h = omega (arith, sum_bound n c f (λ i l. h i (omega arith)), h n (omega arith))

-- a sum with one place only
one_here : (i k : ℕ) (f : ℕ → ℕ) {b : Bool} → Eq? i k b → i ≡ k → on b (f i) ≡ f k
one_here i k f (same p) q = ap f q
one_here i k f (diff p) q = absurd (p q)

one_not : (i k : ℕ) (f : ℕ → ℕ) {b : Bool} → Eq? i k b → i ≢ k → on b (f i) ≡ 0
one_not i k f (same p) q = absurd (q p)
one_not i k f (diff p) q = refl

pub sum_one : (n k : ℕ) (f : ℕ → ℕ) → k < n → sum_to n (λ i. on (eqb i k) (f i)) ≡ f k
unfolding sum_to
sum_one zero k f l = omega arith
sum_one (suc n) k f l = go (eq-or-lt_of_le l) (λ l'. sum_one n k f l')
  where
    go : (suc k ≡ suc n) ⊎ (suc k < suc n) → (k < n → sum_to n (λ i. on (eqb i k) (f i)) ≡ f k) → sum_to n (λ i. on (eqb i k) (f i)) + on (eqb n k) (f n) ≡ f k
    go (inl p) ih =
        omega (
          arith,
          sum_ext n (λ i. on (eqb i k) (f i)) (λ i. 0) (λ i r. one_not i k f (eq? i k) (omega arith)),
          sum_zero n,
          one_here n k f (eq? n k) (omega arith),
        )
    go (inr p) ih = omega (arith, ih (omega arith), one_not n k f (eq? n k) (omega arith))
