-- The numbers that bytes hold, the lowest first: the total from 8 bytes, and the counts and the next position from 24.
use Rattle.std.specs.Prelude.{ℕ, zero, suc, ◌+◌, ◌*◌, ◌/◌, ◌≡◌, refl, List, [], ◌∷◌, length, take, drop}
use Rattle.std.proofs.Common.{ap}
use Rattle.definitions.specs.Plan.{lowest_first, Written, number_size}

-- the number that bytes hold, the lowest first
unfoldable pub held : List ℕ → ℕ
held [] = 0
held (x ∷ xs) = x + 256 * held xs

-- k bytes hold the numbers below this
unfoldable pub bytes_limit : ℕ → ℕ
bytes_limit zero = 1
bytes_limit (suc k) = 256 * bytes_limit k

pub lowest_length : (k v : ℕ) → length (lowest_first k v) ≡ k
unfolding lowest_first
lowest_length zero v = refl
lowest_length (suc k) v = ap suc (lowest_length k (v / 256))

-- the number that the 8 bytes from an offset on hold
abbrev pub held_from : (at : ℕ) → List ℕ → ℕ
held_from at bytes = held (take number_size (drop at bytes))

-- the three numbers that 24 bytes hold
abbrev pub counts_held : List ℕ → Written
counts_held out = record { bytes = held_from 0 out; orders = held_from number_size out; next = held_from (2 * number_size) out }
