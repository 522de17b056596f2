-- Tests on numbers, with what they say: match on `eq? a b` or `lt? a b`, whose index is the test's value; and a value where a test holds, else 0.
use Rattle.std.specs.Prelude.{◌≡◌, refl, Bool, true, false, ◌≢◌, ℕ, ◌≤◌, ◌<◌, eqb, ltb}
use Rattle.std.proofs.Common.{sym, subst, arith, eq-eqb, ne_eqb, lt-ltb, le-ltb}
use Rattle.std.proofs.Math.Decide.{ℕ_discrete, dec_lt}
use Rattle.definitions.specs.Arithmetic.{on}

-- what the test of a and b for equality says: they are the same, or they differ
pub data Eq? (a b : ℕ) : Bool → Type 0 where
  same : a ≡ b → Eq? a b true
  diff : a ≢ b → Eq? a b false

pub eq? : (a b : ℕ) → Eq? a b (eqb a b)
eq? a b = elim (ℕ_discrete a b) [
  | yes p ↦ subst (Eq? a b) (sym (eq-eqb a b p)) (same p)
  | no p ↦ subst (Eq? a b) (sym (ne_eqb a b p)) (diff p)
]

-- what the test of a below b says: less, or not
pub data Lt? (a b : ℕ) : Bool → Type 0 where
  less : a < b → Lt? a b true
  more : b ≤ a → Lt? a b false

pub lt? : (a b : ℕ) → Lt? a b (ltb a b)
lt? a b = elim (dec_lt a b) [
  | yes p ↦ subst (Lt? a b) (sym (lt-ltb a b p)) (less p)
  | no p ↦ subst (Lt? a b) (sym (le-ltb a b (omega arith))) (more (omega arith))
]

pub positive : (n : ℕ) → n ≢ 0 → 0 < n
positive n h = omega arith

pub is_false : (t : Bool) → (t ≡ true → ⊥) → t ≡ false
is_false true h = absurd (h refl)
is_false false h = refl

-- ---- a value where a test holds, else 0

pub on_true : (t : Bool) (v : ℕ) → t ≡ true → on t v ≡ v
on_true t v e = rw e refl

pub on_le : (t : Bool) (v : ℕ) → on t v ≤ v
on_le true v = omega arith
on_le false v = omega arith
