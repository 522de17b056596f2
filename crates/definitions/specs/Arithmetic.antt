-- Sums, tests and lists over an index, tests on whole numbers, and whole numbers as residues.
use Rattle.std.specs.Prelude.{ℕ, zero, suc, ◌+◌, ◌-◌, Bool, true, false, cond, ◌&&◌, ◌||◌, List, [], ◌++◌, ltb, eqb, ℤ, pos, negsuc, ◌+ℤ◌, ◌-ℤ◌}
use Rattle.std.specs.Int.Signed.{le_z}
use Rattle.definitions.specs.Limits.{modulus, greatest_positive}

-- v where the test holds, else 0
abbrev pub on : Bool → ℕ → ℕ
on test v = cond test v 0

-- f 0 + f 1 + .. + f (n - 1)
unfoldable pub sum_to : ℕ → (ℕ → ℕ) → ℕ
sum_to zero f = 0
sum_to (suc n) f = sum_to n f + f n

-- the same of whole numbers
unfoldable pub sum_z : ℕ → (ℕ → ℤ) → ℤ
sum_z zero f = pos 0
sum_z (suc n) f = sum_z n f +ℤ f n

-- t 0, t 1, .., t (n - 1) all hold
unfoldable pub all_to : ℕ → (ℕ → Bool) → Bool
all_to zero t = true
all_to (suc n) t = all_to n t && t n

-- some of t 0, t 1, .., t (n - 1) holds
unfoldable pub any_to : ℕ → (ℕ → Bool) → Bool
any_to zero t = false
any_to (suc n) t = any_to n t || t n

-- the lists f 0, f 1, .., f (n - 1), one after another
unfoldable pub join_to : {A : Type 0} → ℕ → (ℕ → List A) → List A
join_to zero f = []
join_to (suc n) f = join_to n f ++ f n

-- low ≤ z ≤ high
abbrev pub within : ℤ → ℤ → ℤ → Bool
within low high z = le_z low z && le_z z high

-- two whole numbers are equal
abbrev pub eq_z : ℤ → ℤ → Bool
eq_z (pos a) (pos b) = eqb a b
eq_z (pos a) (negsuc b) = false
eq_z (negsuc a) (pos b) = false
eq_z (negsuc a) (negsuc b) = eqb a b

-- "Reading a cell with sign: a residue above 1,073,741,823 reads as itself minus p. Any other reads as itself."
abbrev pub reading : ℕ → ℤ
reading x = cond (ltb greatest_positive x) (pos x -ℤ pos modulus) (pos x)

-- "a negative number v is written as v + p, in results too"; p and every number above it stay, every number below −p becomes 0: no accepted
-- book has such a number
abbrev pub residue : ℤ → ℕ
residue (pos v) = v
residue (negsuc v) = modulus - suc v
