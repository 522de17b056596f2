-- What the orders make of small numbers (nothing wraps, and the signed order is the order) and of the residues that sealing writes.
use Rattle.std.specs.Prelude.{◌≡◌, refl, Bool, true, false, cond, ℕ, zero, suc, ◌+◌, ◌-◌, ◌*◌, ◌≤◌, ◌<◌, min, max, ltb, ℤ, pos, negsuc, nat_abs, ◌+ℤ◌}
use Rattle.std.proofs.Common.{ap, arith, lt-ltb, le-ltb}
use Rattle.std.specs.Int.Signed.{lt_z}
use Rattle.definitions.specs.Limits.{modulus, greatest_positive, whole_limit}
use Rattle.definitions.specs.Arithmetic.{on, residue}
use Rattle.definitions.specs.Machine.{plus, minus, times, less_than}
use Rattle.laws.specs.Tests.{Lt?, less, more, lt?}
use Rattle.residues.specs.Residues.{reading_residue}

pub plus_small : (a b : ℕ) → a + b < modulus → plus a b ≡ a + b
plus_small a b h = omega arith

pub minus_small : (a b : ℕ) → a < modulus → b ≤ a → minus a b ≡ a - b
minus_small a b h k = omega arith

pub times_small : (a b : ℕ) → a * b < modulus → times a b ≡ a * b
times_small a b h = omega arith

-- a product with a test's number
pub times_on : (t : Bool) (v : ℕ) → v < modulus → times (on t 1) v ≡ on t v
times_on true v h = omega arith
times_on false v h = omega arith

pub on_times : (t : Bool) (v : ℕ) → v < modulus → times v (on t 1) ≡ on t v
on_times true v h = omega arith
on_times false v h = omega arith

pub less_small : (a b : ℕ) → a ≤ greatest_positive → b ≤ greatest_positive → less_than a b ≡ on (ltb a b) 1
less_small a b h k = rw (le-ltb greatest_positive a h, le-ltb greatest_positive b k)

-- the four orders of a running minimum, and of a running maximum
pub min_small : (a b : ℕ) → a ≤ greatest_positive → b ≤ greatest_positive → plus a (times (less_than b a) (minus b a)) ≡ min a b
min_small a b h k = rw (less_small b a k h) (go (lt? b a))
  where
    go : {t : Bool} → Lt? b a t → plus a (times (on t 1) (minus b a)) ≡ min a b
    go (less l) = omega arith
    go (more l) = omega arith

pub max_small : (a b : ℕ) → a ≤ greatest_positive → b ≤ greatest_positive → plus a (times (less_than a b) (minus b a)) ≡ max a b
max_small a b h k = rw (less_small a b h k) (go (lt? a b))
  where
    go : {t : Bool} → Lt? a b t → plus a (times (on t 1) (minus b a)) ≡ max a b
    go (less l) = omega arith
    go (more l) = omega arith

-- ---- numbers with sign

-- the test whether a number is above 0
pub positive_residue : (z : ℤ) → nat_abs z ≤ greatest_positive → less_than 0 (residue z) ≡ on (lt_z (pos 0) z) 1
positive_residue z h = rw (reading_residue z h)

-- the size of a number, from its residue and the test whether it is above 0
pub size_residue : (z : ℤ) → nat_abs z ≤ greatest_positive
    → minus (times (residue z) (on (lt_z (pos 0) z) 1)) (minus (residue z) (times (residue z) (on (lt_z (pos 0) z) 1))) ≡ nat_abs z
size_residue (pos zero) h = refl
size_residue (pos (suc a)) h =
    let whole : times (suc a) (on (ltb 0 (suc a)) 1) ≡ suc a = rw (lt-ltb 0 (suc a) (omega arith)) (omega arith) in
    let nothing : minus (suc a) (suc a) ≡ 0 = omega arith in
    rw (whole, nothing) (omega arith)
size_residue (negsuc a) h =
    let nothing : times (modulus - suc a) 0 ≡ 0 = omega arith in
    let whole : minus (modulus - suc a) 0 ≡ modulus - suc a = omega arith in
    rw (nothing, whole) (omega arith)

-- the whole part of a price, raised by its limit
pub raise_residue : (z : ℤ) (r : ℕ) → z +ℤ pos whole_limit ≡ pos r → r ≤ 2 * whole_limit → plus (residue z) whole_limit ≡ r
raise_residue (pos a) r e h = let q : a + whole_limit ≡ r = ap nat_abs e in omega arith
raise_residue (negsuc a) r e h = go (lt? whole_limit (suc a)) e
  where
    go : {t : Bool} → Lt? whole_limit (suc a) t → cond t (negsuc (suc a - suc whole_limit)) (pos (whole_limit - suc a)) ≡ pos r → plus (modulus - suc a) whole_limit ≡ r
    go (less l) f = let q : ◌≡◌ {A = ℕ} 0 1 = cc in omega arith
    go (more l) f = let q : whole_limit - suc a ≡ r = ap nat_abs f in omega arith
