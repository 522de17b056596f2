-- The bid table read as bids, each a chunk of its numbers: each number of bid i is the one that the table holds for it. The prover hands it over as
-- read back from its bits.
use Rattle.std.specs.Prelude.{ℕ, ◌+◌, ◌*◌, ◌/◌, ◌<◌, ◌^◌, ◌≡◌, List, [], ℤ, pos, length, get_or}
use Rattle.std.proofs.Common.{ap, ◌∙◌, arith, w32, to_z, of_z}
use Rattle.std.specs.Int.Signed.{mag}
use Rattle.std.specs.Simd.{first_chunks}
use mir.Val.{hbits}
use Rattle.definitions.specs.Limits.{bid_numbers}
use Rattle.laws.specs.Chunks.{chunk_entry}
use Rattle.laws.specs.SignedTests.{back}

-- number j of bid i
abbrev pub number : (bids : List (List ℤ)) (i j : ℕ) → ℤ
number bids i j = get_or (get_or bids i []) j (pos 0)

-- what `as_chunks` promises of them, and one of them
module _ (table : List ℤ) {bids : List (List ℤ)} (front : bids ≡ first_chunks bid_numbers (length table / bid_numbers) table)
    (front_len : length bids ≡ length table / bid_numbers) (i : ℕ) (h : i < length bids) where
  pub number_at : (j : ℕ) → j < bid_numbers → number bids i j ≡ get_or table (bid_numbers * i + j) (pos 0)
  number_at j q = ap (λ (b : List (List ℤ)). number b i j) front ∙ chunk_entry bid_numbers table (length table / bid_numbers) i j (pos 0) (omega arith) q

  pub number_read : (j : ℕ) → j < bid_numbers → mag (number bids i j) < 2 ^ hbits w32 → to_z w32 (of_z w32 (number bids i j)) ≡ get_or table (bid_numbers * i + j) (pos 0)
  number_read j q given = back w32 (number bids i j) given ∙ number_at j q

  pub pool_read : mag (number bids i 0) < 2 ^ hbits w32 → to_z w32 (of_z w32 (number bids i 0)) ≡ get_or table (bid_numbers * i) (pos 0)
  pool_read given = number_read 0 (omega arith) given ∙ ap (λ (at : ℕ). get_or table at (pos 0)) (let e : bid_numbers * i + 0 ≡ bid_numbers * i = omega arith in e)
