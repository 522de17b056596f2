-- A whole number of size at most 1,073,741,823 has a residue below p (`residue_below`) and is read back from it (`reading_residue`).
use Rattle.std.specs.Prelude.{ℕ, suc, ◌-◌, ◌<◌, ◌≤◌, ◌≡◌, refl, cond, ltb, ℤ, pos, negsuc, ◌-ℤ◌, nat_abs}
use Rattle.std.proofs.Common.{ap, ◌∙◌, arith, lt-ltb, le-ltb}
use Rattle.definitions.specs.Limits.{modulus, greatest_positive}
use Rattle.definitions.specs.Arithmetic.{reading, residue}

-- a cell's number read with sign; a number that is no residue, which no sheet holds, as 0
abbrev pub read : ℕ → ℤ
read x = cond (ltb x modulus) (reading x) (pos 0)

pub read_residue : (x : ℕ) → x < modulus → read x ≡ reading x
read_residue x h = rw (lt-ltb x modulus h) refl

-- a residue less p
pub less_modulus : (x : ℕ) → x < modulus → pos x -ℤ pos modulus ≡ negsuc (modulus - suc x)
less_modulus x h = simp (lt-ltb x modulus h)

-- the two ways to read a residue
pub reads_itself : (x : ℕ) → x ≤ greatest_positive → reading x ≡ pos x
reads_itself x h = simp (le-ltb greatest_positive x h)

reads_lowered : (x : ℕ) → greatest_positive < x → x < modulus → reading x ≡ negsuc (modulus - suc x)
reads_lowered x h k = simp (lt-ltb greatest_positive x h) (less_modulus x k)

pub residue_below : (z : ℤ) → nat_abs z ≤ greatest_positive → residue z < modulus
residue_below (pos v) h = omega arith
residue_below (negsuc v) h = omega arith

pub reading_residue : (z : ℤ) → nat_abs z ≤ greatest_positive → reading (residue z) ≡ z
reading_residue (pos v) h = reads_itself v h
reading_residue (negsuc v) h =
    reads_lowered (modulus - suc v) (omega arith) (omega arith)
    ∙ ap negsuc (let q : modulus - suc (modulus - suc v) ≡ v = omega arith in q)
