-- A bid table and a sheet whose accepted amounts are within limits, so that their welfare can be summed (`amounts_summed`).
use Rattle.std.specs.Prelude.{ℕ, ◌+◌, ◌*◌, ◌≤◌, ◌<◌, ◌≡◌, List, length, get_or, take, drop, ℤ}
use Rattle.std.proofs.Common.{◌∙◌, arith, mul-le-mul_right, length-take, length-drop, get_or-take, get_or-drop}
use Rattle.definitions.specs.Limits.{bid_limit, pool_limit, quantity_limit, cell_count, bid_numbers}
use Rattle.definitions.specs.Book.{Book, book}
use Rattle.definitions.specs.Sheet.{first_result, amount_cell}
use Rattle.definitions.specs.Machine.{cell}
use Rattle.sums.specs.SummedWelfare.{OverBids, summed, summed_is}

-- what keeps the sum of the welfare within 64 bits: few bids, and each amount within its limit
pub record AmountsWithin (n m : ℕ) (bids : List ℤ) (s : List ℕ) : Type 0 where
  pub few_bids : n ≤ bid_limit
  pub few_pools : m ≤ pool_limit
  pub table : length bids ≡ bid_numbers * n
  pub cells : length s ≡ cell_count
  pub amounts : (i : ℕ) → i < n → cell s (amount_cell n m i) ≤ quantity_limit

-- the cells of the inputs and the amounts are on the sheet
pub amounts_end : (n m : ℕ) → n ≤ bid_limit → m ≤ pool_limit → first_result n m + n ≤ cell_count
amounts_end n m h k = omega (arith, mul-le-mul_right m k)

-- the accepted amounts as a part of the sheet, k of them from the first result on
module _ (n m : ℕ) (bids : List ℤ) (s : List ℕ) (within : AmountsWithin n m bids s) (k : ℕ) (all : k ≡ n) where
  abbrev part : List ℕ
  part = take k (drop (first_result n m) s)

  part_length : length part ≡ n
  part_length =
      length-take k (drop (first_result n m) s)
      ∙ omega (arith, length-drop (first_result n m) s, amounts_end n m within.few_bids within.few_pools, within.cells)

  part_amount : (i : ℕ) → i < n → get_or part i 0 ≡ cell s (amount_cell n m i)
  part_amount i l = get_or-take k (drop (first_result n m) s) i 0 (omega arith) ∙ get_or-drop (first_result n m) s i 0

  -- a sum over the bids and these amounts is that of the sheet's amounts, whatever the lines carry
  pub amounts_summed : {sum : Book → (ℕ → ℕ) → ℤ} → OverBids sum → (capacities : List ℤ) → summed sum bids part ≡ sum (book n m bids capacities) (λ i. cell s (amount_cell n m i))
  amounts_summed over capacities =
      summed_is over (book n m bids capacities) within.few_bids within.table part (λ i. cell s (amount_cell n m i)) part_length part_amount within.amounts
