-- A widened book is refused as the book was, with the same number and place (`refusal_same`).
use Rattle.std.specs.Prelude.{ℕ, zero, suc, ◌+◌, ◌*◌, ◌≡◌, refl, Bool, ◌&&◌, eqb, length}
use Rattle.std.proofs.Common.{ap, ap₂}
use Rattle.definitions.specs.Limits.{cell_count}
use Rattle.definitions.specs.Book.{pool, whole_price, quantity, hundredths}
use Rattle.definitions.specs.Answers.{Refusal, numbered, first}
use Rattle.definitions.specs.Calls.{first_from, counts_refusal, length_refusal, bid_fault, bids_refusal, row_refusal, capacities_refusal, seal_refusal}
use Rattle.earlier.specs.Earlier as earlier
use Rattle.earlier.specs.Widened.{widened_book}
use Rattle.earlier.proofs.Table.{length_same}
use Rattle.earlier.proofs.Bids.{pool_same, whole_price_same, quantity_same, hundredths_none}
use Rattle.earlier.proofs.Prices.{fault_before}

first_from_same : (i k : ℕ) (f h : ℕ → Refusal) → ((j : ℕ) → f j ≡ h j) → first_from i k f ≡ earlier.first_from i k h
unfolding first_from earlier.first_from
first_from_same i zero f h e = refl
first_from_same i (suc k) f h e = ap₂ first (e i) (first_from_same (suc i) k f h e)

module _ (B : earlier.Book) where
  fault_same : (i : ℕ)
      → bid_fault B.m (pool (widened_book B) i) (whole_price (widened_book B) i) (quantity (widened_book B) i) (hundredths (widened_book B) i)
      ≡ earlier.bid_fault B.m (earlier.pool B i) (earlier.price B i) (earlier.quantity B i)
  fault_same i =
      rw (pool_same B i, whole_price_same B i, quantity_same B i, hundredths_none B i)
      (fault_before B.m (earlier.pool B i) (earlier.price B i) (earlier.quantity B i))

  pub bids_same : bids_refusal (widened_book B) ≡ earlier.bids_refusal B
  unfolding bids_refusal earlier.bids_refusal
  bids_same = first_from_same 0 B.n _ _ (λ i. ap (λ (fault : ℕ). numbered fault (i + 1)) (fault_same i))

  capacities_same : capacities_refusal (widened_book B) ≡ earlier.capacities_refusal B
  unfolding capacities_refusal row_refusal earlier.capacities_refusal earlier.row_refusal
  capacities_same = first_from_same 0 B.m _ _ (λ a. first_from_same 0 B.m _ _ (λ b. refl))

  pub refusal_same : (cells : ℕ) → seal_refusal (widened_book B) cells ≡ earlier.seal_refusal B cells
  unfolding seal_refusal earlier.seal_refusal
  refusal_same cells =
      ap (first (counts_refusal B.n B.m))
      (ap₂ first
      (ap (λ (bids : Bool). length_refusal ((bids && eqb (length B.capacities) (B.m * B.m)) && eqb cells cell_count)) (length_same B.n B.bids))
      (ap₂ first bids_same capacities_same))
