-- Subsets of the first m numbers, as tests and as masks below 2 ^ m, and the least of a function over all of them.
use Rattle.std.specs.Prelude.{◌≡◌, Bool, true, false, ◌⊎◌, ℕ, zero, suc, ◌+◌, ◌*◌, ◌≤◌, ◌<◌, ◌/◌, ◌%◌, ◌^◌, eqb}
use Rattle.std.proofs.Common.{ap, inl, inr, arith, le_trans, le_of_eq, pow_pos}
use Rattle.definitions.specs.Arithmetic.{on}
use Rattle.laws.specs.Tests.{on_le}
use Rattle.laws.specs.Extremes.{min_to, min_le_at, min_attained}

-- s, a set by its binary digits, holds p
unfoldable pub member : ℕ → ℕ → Bool
member s zero = eqb (s % 2) 1
member s (suc p) = member (s / 2) p

-- the mask of a predicate on the first m numbers
unfoldable pub mask : ℕ → (ℕ → Bool) → ℕ
mask zero P = 0
mask (suc m) P = on (P 0) 1 + 2 * mask m (λ p. P (suc p))

mask_head : (b : Bool) (x : ℕ) → eqb ((on b 1 + 2 * x) % 2) 1 ≡ b
mask_head true x = let e : (1 + 2 * x) % 2 ≡ 1 = omega arith in ap (λ (z : ℕ). eqb z 1) e
mask_head false x = let e : (0 + 2 * x) % 2 ≡ 0 = omega arith in ap (λ (z : ℕ). eqb z 1) e

mask_tail : (b : Bool) (x : ℕ) → (on b 1 + 2 * x) / 2 ≡ x
mask_tail true x = omega arith
mask_tail false x = omega arith

pub mask_lt : (m : ℕ) (P : ℕ → Bool) → mask m P < 2 ^ m
unfolding mask
mask_lt zero P = omega arith
mask_lt (suc m) P = omega (arith, mask_lt m (λ p. P (suc p)), on_le (P 0) 1)

pub mask_member : (m : ℕ) (P : ℕ → Bool) (p : ℕ) → p < m → member (mask m P) p ≡ P p
unfolding mask member
mask_member zero P p l = absurd (omega arith)
mask_member (suc m) P zero l = mask_head (P 0) (mask m (λ p. P (suc p)))
mask_member (suc m) P (suc p) l = rw (mask_tail (P 0) (mask m (λ p. P (suc p)))) (mask_member m (λ p. P (suc p)) p (omega arith))

-- F looks only at the first m numbers
abbrev pub LooksBelow : ℕ → ((ℕ → Bool) → ℕ) → Type 0
LooksBelow m F = (P Q : ℕ → Bool) → ((p : ℕ) → p < m → P p ≡ Q p) → F P ≡ F Q

-- the least of F over all subsets of the first m numbers
unfoldable pub least : ℕ → ((ℕ → Bool) → ℕ) → ℕ
least m F = min_to (F (member 0)) (2 ^ m) (λ s. F (member s))

pub least_at : (m : ℕ) (F : (ℕ → Bool) → ℕ) → (s : ℕ) × (s < 2 ^ m) × (least m F ≡ F (member s))
unfolding least
least_at m F = go (min_attained (F (member 0)) (2 ^ m) (λ s. F (member s)))
  where
    go : (least m F ≡ F (member 0)) ⊎ ((i : ℕ) × (i < 2 ^ m) × (least m F ≡ F (member i))) → (s : ℕ) × (s < 2 ^ m) × (least m F ≡ F (member s))
    go (inl p) = (0, pow_pos m, p)
    go (inr p) = p

pub least_le : (m : ℕ) (F : (ℕ → Bool) → ℕ) → LooksBelow m F → (P : ℕ → Bool) → least m F ≤ F P
unfolding least
least_le m F e P =
    le_trans (min_le_at (F (member 0)) (2 ^ m) (λ s. F (member s)) (mask m P) (mask_lt m P)) (le_of_eq (e (member (mask m P)) P (mask_member m P)))
