-- A number's groups at the head of some bytes, by the tests of the code.
use Rattle.std.proofs.Common.{ℕ, zero, suc, ◌+◌, ◌-◌, ◌/◌, ◌%◌, ◌<◌, ◌≤◌, ◌≡◌, refl, Bool, false, cond, List, [], ◌∷◌, ltb, length, arith, sub-one, lt-ltb, le-ltb}
use Rattle.definitions.specs.Bytes.{groups, short, bad, last_group, more_groups, read_groups}

-- ---- reading

pub no_groups : (g : ℕ) (first : Bool) (xs : List ℕ) → g ≡ 0 → bad ≡ read_groups g first xs
unfolding read_groups
no_groups zero first xs e = refl
no_groups (suc g) first xs e = absurd (omega arith)

pub no_bytes : (g : ℕ) (first : Bool) (xs : List ℕ) → (g ≡ 0 → ⊥) → length xs ≡ 0 → short ≡ read_groups g first xs
unfolding read_groups
no_bytes zero first xs e h = absurd (e refl)
no_bytes (suc g) first [] e h = refl
no_bytes (suc g) first (x ∷ xs) e h = absurd (omega arith)

pub a_byte : (g : ℕ) (first : Bool) (x : ℕ) (xs : List ℕ) → (g ≡ 0 → ⊥)
    → read_groups g first (x ∷ xs) ≡ cond (ltb x 128) (last_group first x) (more_groups x (read_groups (g - 1) false xs))
unfolding read_groups
a_byte zero first x xs e = absurd (e refl)
a_byte (suc g) first x xs e = rw sub-one refl

-- ---- writing

pub groups_none : (g v : ℕ) → g ≡ 0 → groups g v ≡ []
unfolding groups
groups_none zero v e = refl
groups_none (suc g) v e = absurd (omega arith)

pub groups_last : (g v : ℕ) → (g ≡ 0 → ⊥) → v < 128 → groups g v ≡ v ∷ []
unfolding groups
groups_last zero v e h = absurd (e refl)
groups_last (suc g) v e h = simp (lt-ltb v 128 h)

pub groups_more : (g v : ℕ) → (g ≡ 0 → ⊥) → 128 ≤ v → groups g v ≡ (v % 128 + 128) ∷ groups (g - 1) (v / 128)
unfolding groups
groups_more zero v e h = absurd (e refl)
groups_more (suc g) v e h = simp (le-ltb v 128 h, sub-one)
