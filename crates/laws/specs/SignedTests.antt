-- What a test of two signed numbers tells, as the prover hands it over: each number that is no literal is read back from its bits, `to_z w (of_z w x)`.
-- Each law says the same of the numbers themselves.
use Rattle.std.specs.Prelude.{◌≡◌, refl, Bool, true, false, ℤ, pos, negsuc, ◌<◌, ◌^◌, eqb}
use Rattle.std.proofs.Common.{sym, ap, ◌∙◌, subst, true≢false, eqb-true, eq-eqb, to_z-of_z, w32, w64, SFits, to_z, of_z}
use Rattle.std.specs.Int.Signed.{lt_z, mag}
use Rattle.definitions.specs.Arithmetic.{eq_z}
use Rattle.std.specs.Int.{Width}
use mir.Val.{hbits}
use Rattle.std.proofs.Math.Facts.{sfits_widen}
use Rattle.laws.specs.Tests.{is_false, Eq?, same, diff, eq?}

-- the test's left side, or its right side, is a variable
pub left : {w : Width} {x : ℤ} (y : ℤ) {t : Bool} → SFits w x → lt_z (to_z w (of_z w x)) y ≡ t → lt_z x y ≡ t
left y f e = ap (λ (z : ℤ). lt_z z y) (sym (to_z-of_z f)) ∙ e

pub right : {w : Width} (x : ℤ) {y : ℤ} {t : Bool} → SFits w y → lt_z x (to_z w (of_z w y)) ≡ t → lt_z x y ≡ t
right x f e = ap (λ (z : ℤ). lt_z x z) (sym (to_z-of_z f)) ∙ e

-- ---- equality: the code compares the bits
pub eq_z_refl : (x : ℤ) → eq_z x x ≡ true
eq_z_refl (pos a) = eq-eqb a a refl
eq_z_refl (negsuc a) = eq-eqb a a refl

pub eq_z_true : (x y : ℤ) → eq_z x y ≡ true → x ≡ y
eq_z_true (pos a) (pos b) e = ap pos (eqb-true a b e)
eq_z_true (pos a) (negsuc b) e = absurd (true≢false (sym e))
eq_z_true (negsuc a) (pos b) e = absurd (true≢false (sym e))
eq_z_true (negsuc a) (negsuc b) e = ap negsuc (eqb-true a b e)

pub same_bits : {w : Width} {x y : ℤ} → SFits w x → SFits w y → of_z w x ≡ of_z w y → x ≡ y
same_bits {w = w} f g e = sym (to_z-of_z f) ∙ ap (to_z w) e ∙ to_z-of_z g

pub eq_yes : {w : Width} {x y : ℤ} → SFits w x → SFits w y → of_z w x ≡ of_z w y → eq_z x y ≡ true
eq_yes {x = x} f g e = subst (λ (z : ℤ). eq_z x z ≡ true) (same_bits f g e) (eq_z_refl x)

pub eq_no : (w : Width) (x y : ℤ) → (of_z w x ≡ of_z w y → ⊥) → eq_z x y ≡ false
eq_no w x y h = is_false (eq_z x y) (λ e. h (ap (of_z w) (eq_z_true x y e)))

pub eq_bits : {w : Width} {x y : ℤ} → SFits w x → SFits w y → eqb (of_z w x) (of_z w y) ≡ eq_z x y
eq_bits {w = w} {x = x} {y = y} f g = go (eq? (of_z w x) (of_z w y))
  where
    go : {t : Bool} → Eq? (of_z w x) (of_z w y) t → t ≡ eq_z x y
    go (same p) = sym (eq_yes f g p)
    go (diff p) = sym (eq_no w x y p)

-- ---- what a read of an element gives is the bound of its size
pub back : (w : Width) (z : ℤ) → mag z < 2 ^ hbits w → to_z w (of_z w z) ≡ z
back w z h = to_z-of_z {w = w} {z = z} (record { sfits = h })

-- ---- a number of 32 bits is read back from its 64 bits
pub widened : {z : ℤ} → SFits w32 z → to_z w64 (of_z w64 (to_z w32 (of_z w32 z))) ≡ z
widened f = ap (λ (z : ℤ). to_z w64 (of_z w64 z)) (to_z-of_z f) ∙ to_z-of_z {w = w64} (sfits_widen tt f)
