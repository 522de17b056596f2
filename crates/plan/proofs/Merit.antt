-- The merit order by comparing keys: one comparison tells whether bid j is before bid i (`test_is_before`).
use Rattle.std.specs.Prelude.{◌≡◌, Bool, true, false, ℕ, ◌+◌, ◌*◌, ◌<◌, ltb}
use Rattle.std.proofs.Common.{sym, arith}
use Rattle.definitions.specs.Book.{Book}
use Rattle.definitions.specs.Clearing.{before}
use Rattle.laws.specs.Tests.{Lt?, less, more, lt?}
use Rattle.laws.specs.AcceptedBook.{Sound, raised_price}
use Rattle.theory.specs.ClosedForms.{key}
use Rattle.theory.proofs.ClosedBest.{before_low, before_high, before_self}

-- the comparison that the plan makes; the tests say j < i and i < j
abbrev pub key_test : Bool → Bool → (B : Book) (j i : ℕ) → Bool
key_test true y B j i = ltb (key B j) (2 * raised_price B i + 1)
key_test false true B j i = ltb (2 * raised_price B j) (key B i)
key_test false false B j i = false

pub test_is_before : (B : Book) → Sound B → (j i : ℕ) → j < B.n → i < B.n → key_test (ltb j i) (ltb i j) B j i ≡ before B j i
test_is_before B ok j i l r = go (lt? j i) (lt? i j)
  where
    go : {x y : Bool} → Lt? j i x → Lt? i j y → key_test x y B j i ≡ before B j i
    go (less p) q = sym (before_low B ok j i l r p)
    go (more p) (less q) = sym (before_high B ok j i l r q)
    go (more p) (more q) = let e : j ≡ i = omega arith in rw e (sym (before_self B ok i r))
