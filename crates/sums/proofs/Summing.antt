-- A loop that adds up the sizes of 32-bit numbers: what it has added so far.
use Rattle.std.proofs.Common.{ℕ, ◌+◌, ◌*◌, ◌^◌, ◌≤◌, ◌≡◌, sym, ap₂, ◌∙◌, arith}
use Rattle.definitions.specs.Arithmetic.{sum_to}
use Rattle.laws.specs.Sum.{sum_none, sum_next}

pub record SummedSoFar (f : ℕ → ℕ) (total i : ℕ) : Type 0 where
  pub sum : total ≡ sum_to i f
  pub small : total ≤ i * 2 ^ 31

pub summing_begins : (f : ℕ → ℕ) → SummedSoFar f 0 0
summing_begins f = record { sum = sym (sum_none f); small = omega arith }

pub summing_turn : {f : ℕ → ℕ} {total i : ℕ} → SummedSoFar f total i → (part : ℕ) → part ≡ f i → part ≤ 2 ^ 31 → SummedSoFar f (total + part) (i + 1)
summing_turn {f = f} {i = i} s part e h = record {
  sum = ap₂ ◌+◌ s.sum e ∙ sym (sum_next i f);
  small = omega (arith, s.small);
}
