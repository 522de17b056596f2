-- The library's bytes of a number are those of the documents, the lowest first.
use Rattle.std.proofs.Common.{ℕ, ◌≡◌}
use Rattle.std.proofs.Math.Nat.{div-div-eq-div-mul}
use Rattle.std.specs.Int.{w64, to_le_bytes}
use Rattle.definitions.specs.Plan.{lowest_first, number_size}

pub bytes_are : (v : ℕ) → to_le_bytes w64 v ≡ lowest_first number_size v
unfolding lowest_first
bytes_are v = simp div-div-eq-div-mul
