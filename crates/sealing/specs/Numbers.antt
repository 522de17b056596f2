-- The number at a place of a bid's row, which the table holds (`number_held`).
use Rattle.std.specs.Prelude.{ℕ, zero, suc, ◌+◌, ◌*◌, ◌≡◌, refl, get_or, ℤ, pos}
use Rattle.std.proofs.Common.{ap, add-zero}
use Rattle.definitions.specs.Limits.{bid_numbers}
use Rattle.definitions.specs.Book.{Book, pool}

-- at place 0 the pool
abbrev pub number_in_row : Book → (place : ℕ) → ℕ → ℤ
number_in_row B zero i = pool B i
number_in_row B (suc place) i = get_or B.bids (bid_numbers * i + suc place) (pos 0)

pub number_held : (B : Book) (place i : ℕ) → get_or B.bids (bid_numbers * i + place) (pos 0) ≡ number_in_row B place i
number_held B zero i = ap (λ (at : ℕ). get_or B.bids at (pos 0)) (add-zero (bid_numbers * i))
number_held B (suc place) i = refl
