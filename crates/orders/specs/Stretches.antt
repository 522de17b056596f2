-- Stretches of orders one behind the other, known by their sizes: where each begins, and the position of a place in them.
use Rattle.std.specs.Prelude.{ℕ, ◌+◌, ◌-◌, ◌≤◌, ◌<◌, ◌≡◌, List, length, get_or}
use Rattle.std.proofs.Common.{arith}
use Rattle.std.proofs.Math.Decide.{dec_lt}
use Rattle.definitions.specs.Arithmetic.{sum_to}
use Rattle.laws.specs.Sum.{sum_next, sum_ext, sum_prefix}
use Rattle.orders.specs.declared.walk.Within.{Within}

-- how many orders stretch u has, 0 past the last
abbrev pub size_at : List ℕ → ℕ → ℕ
size_at sizes u = get_or sizes u 0

-- where stretch k begins
unfoldable pub start : List ℕ → ℕ → ℕ
start sizes k = sum_to k (size_at sizes)

-- how many orders come before a place
abbrev pub position : List ℕ → Within → ℕ
position sizes place = start sizes place.stretch + place.before

module _ (sizes : List ℕ) where
  pub from_start : (x : ℕ) → start sizes 0 + x ≡ x
  unfolding start sum_to
  from_start x = omega arith

  -- what comes before the end lies in a stretch
  pub stretch_there : (k y : ℕ) → start sizes k + y < start sizes (length sizes) → k < length sizes
  unfolding start
  stretch_there k y h = elim (dec_lt k (length sizes)) [
    | yes l ↦ l
    | no l ↦ absurd (omega (arith, sum_prefix (length sizes) k (size_at sizes) (omega arith)))
  ]

  -- counted from the next stretch
  pub one_further : (k y : ℕ) → size_at sizes k ≤ y → start sizes (k + 1) + (y - size_at sizes k) ≡ start sizes k + y
  unfolding start
  one_further k y h = omega (arith, sum_next k (size_at sizes))

-- by other words for the sizes
pub start_is : (sizes : List ℕ) (f : ℕ → ℕ) → ((u : ℕ) → get_or sizes u 0 ≡ f u) → (k : ℕ) → start sizes k ≡ sum_to k f
unfolding start
start_is sizes f h k = sum_ext k (size_at sizes) f (λ u _. h u)
