-- Sets of pools as numbers: membership, complement, and sums over a set built from the sum without its lowest pool (`lowest_sum`).
use Rattle.std.specs.Prelude.{◌≡◌, refl, Bool, not, cond, ℕ, zero, suc, ◌+◌, ◌-◌, ◌*◌, ◌%◌, ◌/◌, ◌^◌, ◌≤◌, ◌<◌, eqb}
use Rattle.std.proofs.Common.{ap, ◌∙◌, arith}
use Rattle.definitions.specs.Arithmetic.{on, sum_to}
use Rattle.laws.specs.Sum.{sum_ext, sum_le}
use Rattle.laws.specs.Tests.{Eq?, same, diff, eq?, on_le}
unfoldable pub use Rattle.theory.specs.Subsets.{member}
unfoldable pub use Rattle.theory.specs.ClosedForms.{subset_sum}
pub use Rattle.theory.specs.ClosedForms.{leaves}

-- the pools that are not in S, as a number
abbrev pub complement : (m S : ℕ) → ℕ
complement m S = 2 ^ m - 1 - S

-- the lowest pool of S
unfoldable pub lowest : (m S : ℕ) → ℕ
lowest zero S = 0
lowest (suc m) S = cond (eqb (S % 2) 1) 0 (suc (lowest m (S / 2)))

-- the other pools of S
unfoldable pub others : (m S : ℕ) → ℕ
others zero S = 0
others (suc m) S = cond (eqb (S % 2) 1) (S - 1) (2 * others m (S / 2))

pub complement_member : (m S p : ℕ) → S < 2 ^ m → p < m → member (complement m S) p ≡ not (member S p)
unfolding member
complement_member zero S p h l = absurd (omega arith)
complement_member (suc m) S zero h l = go (eq? (S % 2) 1) (eq? ((2 ^ suc m - 1 - S) % 2) 1)
  where
    go : {x y : Bool} → Eq? (S % 2) 1 x → Eq? ((2 ^ suc m - 1 - S) % 2) 1 y → y ≡ not x
    go (same p) (same q) = absurd (omega arith)
    go (same p) (diff q) = refl
    go (diff p) (same q) = refl
    go (diff p) (diff q) = absurd (omega arith)
complement_member (suc m) S (suc p) h l =
    let half : (2 ^ suc m - 1 - S) / 2 ≡ 2 ^ m - 1 - S / 2 = omega arith in
    rw half (complement_member m (S / 2) p (omega arith) (omega arith))

-- the first term apart
pub sum_first : (m : ℕ) (f : ℕ → ℕ) → sum_to (suc m) f ≡ f 0 + sum_to m (λ p. f (suc p))
unfolding sum_to
sum_first zero f = omega arith
sum_first (suc m) f = omega (arith, sum_first m f)

pub lowest_below : (m S : ℕ) → 0 < S → S < 2 ^ m → lowest m S < m
unfolding lowest
lowest_below zero S p h = omega arith
lowest_below (suc m) S p h = go (eq? (S % 2) 1) (lowest_below m (S / 2))
  where
    go : {x : Bool} → Eq? (S % 2) 1 x → (0 < S / 2 → S / 2 < 2 ^ m → lowest m (S / 2) < m) → cond x 0 (suc (lowest m (S / 2))) < suc m
    go (same q) ih = omega arith
    go (diff q) ih = omega (arith, ih (omega arith) (omega arith))

pub others_below : (m S : ℕ) → 0 < S → S < 2 ^ m → others m S < S
unfolding others
others_below zero S p h = omega arith
others_below (suc m) S p h = go (eq? (S % 2) 1) (others_below m (S / 2))
  where
    go : {x : Bool} → Eq? (S % 2) 1 x → (0 < S / 2 → S / 2 < 2 ^ m → others m (S / 2) < S / 2) → cond x (S - 1) (2 * others m (S / 2)) < S
    go (same q) ih = omega arith
    go (diff q) ih = omega (arith, ih (omega arith) (omega arith))

subset_first : (m : ℕ) (x : ℕ → ℕ) (S : ℕ) → subset_sum (suc m) x S ≡ on (eqb (S % 2) 1) (x 0) + subset_sum m (λ p. x (suc p)) (S / 2)
unfolding subset_sum member
subset_first m x S = sum_first m (λ p. on (member S p) (x p))

-- a set without pool 0
subset_even : (m : ℕ) (x : ℕ → ℕ) (S R : ℕ) → S % 2 ≡ 0 → S / 2 ≡ R → subset_sum (suc m) x S ≡ subset_sum m (λ p. x (suc p)) R
subset_even m x S R e f = subset_first m x S ∙ rw (e, f) (omega arith)

pub lowest_sum : (m : ℕ) (x : ℕ → ℕ) (S : ℕ) → 0 < S → S < 2 ^ m → subset_sum m x S ≡ subset_sum m x (others m S) + x (lowest m S)
unfolding lowest others
lowest_sum zero x S p h = absurd (omega arith)
lowest_sum (suc m) x S p h = go (eq? (S % 2) 1) (lowest_sum m (λ p. x (suc p)) (S / 2)) (subset_first m x S)
  where
    go : {t : Bool} → Eq? (S % 2) 1 t
        → (0 < S / 2 → S / 2 < 2 ^ m → subset_sum m (λ p. x (suc p)) (S / 2) ≡ subset_sum m (λ p. x (suc p)) (others m (S / 2)) + x (suc (lowest m (S / 2))))
        → subset_sum (suc m) x S ≡ on t (x 0) + subset_sum m (λ p. x (suc p)) (S / 2)
        → subset_sum (suc m) x S ≡ subset_sum (suc m) x (cond t (S - 1) (2 * others m (S / 2))) + x (cond t 0 (suc (lowest m (S / 2))))
    go (same q) ih e = omega (arith, subset_even m x (S - 1) (S / 2) (omega arith) (omega arith))
    go (diff q) ih e = omega (arith, ih (omega arith) (omega arith), subset_even m x (2 * others m (S / 2)) (others m (S / 2)) (omega arith) (omega arith))

pub subset_le : (m : ℕ) (x : ℕ → ℕ) (S : ℕ) → subset_sum m x S ≤ sum_to m x
unfolding subset_sum
subset_le m x S = sum_le m _ x (λ p _. on_le (member S p) (x p))

-- the empty set
pub subset_empty : (m : ℕ) (x : ℕ → ℕ) → subset_sum m x 0 ≡ 0
unfolding subset_sum sum_to
subset_empty zero x = refl
subset_empty (suc m) x = omega (arith, subset_first m x 0, subset_empty m (λ p. x (suc p)))

-- over the complement: over the pools that are not in S
pub subset_outside : (m : ℕ) (x : ℕ → ℕ) (S : ℕ) → S < 2 ^ m → subset_sum m x (complement m S) ≡ sum_to m (λ p. on (not (member S p)) (x p))
unfolding subset_sum
subset_outside m x S h = sum_ext m _ _ (λ p l. ap (λ (t : Bool). on t (x p)) (complement_member m S p h l))
