-- The size of a whole number: of a sum, a difference, a product; and that a number of small size fits.
use Rattle.std.specs.Prelude.{ℕ, zero, suc, ◌+◌, ◌-◌, ◌*◌, ◌<◌, ◌≤◌, ◌^◌, ◌≡◌, refl, Bool, true, false, cond, ltb, ℤ, pos, negsuc, neg_ℤ, nat_abs, ◌+ℤ◌, ◌*ℤ◌}
use Rattle.std.proofs.Common.{sym, subst, arith, mul-le-mul_left, mul-le-mul_right, le_trans, ltb-true, SFits}
use Rattle.std.proofs.Math.IntN.{sub_ℕ}
use Rattle.std.specs.Int.{Width}
use mir.Val.{hbits}

-- a number whose size is below half the width's power fits
pub fits_size : (w : Width) (z : ℤ) → nat_abs z < 2 ^ hbits w → SFits w z
fits_size w (pos n) h = record { sfits = h }
fits_size w (negsuc n) h = record { sfits = omega arith }

-- a number that fits is no greater in size than that power
pub size_fits : (w : Width) (z : ℤ) → SFits w z → nat_abs z ≤ 2 ^ hbits w
size_fits w (pos n) f = omega (arith, f.sfits)
size_fits w (negsuc n) f = omega (arith, f.sfits)

pub size_neg : (z : ℤ) → nat_abs (neg_ℤ z) ≡ nat_abs z
size_neg (pos zero) = refl
size_neg (pos (suc n)) = refl
size_neg (negsuc n) = refl

size_sub : (a b n : ℕ) → a ≤ n → b ≤ n → nat_abs (sub_ℕ a b) ≤ n
size_sub a b n h k = go (ltb a b) refl
  where
    go : (t : Bool) → ltb a b ≡ t → nat_abs (cond t (negsuc (b - suc a)) (pos (a - b))) ≤ n
    go true q = let l : a < b = ltb-true a b q in omega arith
    go false q = omega arith

pub size_add : (a b : ℤ) → nat_abs (a +ℤ b) ≤ nat_abs a + nat_abs b
size_add (pos a) (pos b) = omega arith
size_add (pos a) (negsuc b) = size_sub a (suc b) (a + suc b) (omega arith) (omega arith)
size_add (negsuc a) (pos b) = size_sub b (suc a) (suc a + b) (omega arith) (omega arith)
size_add (negsuc a) (negsuc b) = omega arith

pub size_mul : (a b : ℤ) → nat_abs (a *ℤ b) ≡ nat_abs a * nat_abs b
size_mul (pos a) (pos b) = refl
size_mul (pos a) (negsuc b) = size_neg (pos (a * suc b))
size_mul (negsuc a) (pos b) = size_neg (pos (suc a * b))
size_mul (negsuc a) (negsuc b) = refl

-- the product of two numbers of sizes at most m and n
pub size_product : (a b : ℤ) (m n : ℕ) → nat_abs a ≤ m → nat_abs b ≤ n → nat_abs (a *ℤ b) ≤ m * n
size_product a b m n h k = subst (λ (x : ℕ). x ≤ m * n) (sym (size_mul a b)) (le_trans (mul-le-mul_right (nat_abs b) h) (mul-le-mul_left m k))
