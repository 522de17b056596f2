-- The sheet: what sealing writes, and where the results stand (document 01, 'Tables and sealing', and document 02, request 5).
use Rattle.std.specs.Prelude.{ℕ, ◌+◌, ◌-◌, ◌*◌, List, ◌++◌, map, length, replicate}
use Rattle.definitions.specs.Limits.{cell_count, bid_numbers, pool_results, hundredths_result, presence_result}
use Rattle.definitions.specs.Arithmetic.{residue}
use Rattle.definitions.specs.Book.{Book}

-- "Sealing writes the bids .., then the capacities, then 0 in every further cell"; "bids take four cells"
unfoldable pub sealed_sheet : Book → List ℕ
sealed_sheet B =
    map residue B.bids ++ map residue B.capacities
    ++ replicate (cell_count - (length B.bids + length B.capacities)) 0

-- "From cell 3 × n + m × m (cells count from 0) come the results", with four cells a bid from cell 4 × n + m × m; the cells before it are the
-- input cells
abbrev pub first_result : (n m : ℕ) → ℕ
first_result n m = bid_numbers * n + m * m

-- "n accepted amounts"
abbrev pub amount_cell : (n m i : ℕ) → ℕ
amount_cell n m i = first_result n m + i

-- "m × m flows by rows"
abbrev pub flow_cell : (n m a b : ℕ) → ℕ
flow_cell n m a b = first_result n m + n + (a * m + b)

-- then for each pool three cells, "price, hundredths, presence": its price
abbrev pub price_cell : (n m p : ℕ) → ℕ
price_cell n m p = first_result n m + n + m * m + pool_results * p

-- its hundredths
abbrev pub hundredths_cell : (n m p : ℕ) → ℕ
hundredths_cell n m p = price_cell n m p + hundredths_result

-- "and a presence cell"
abbrev pub presence_cell : (n m p : ℕ) → ℕ
presence_cell n m p = price_cell n m p + presence_result

-- all "n + m × m + 3 × m cells" of the results
abbrev pub result_count : (n m : ℕ) → ℕ
result_count n m = n + m * m + pool_results * m

-- "All later cells are scratch."
abbrev pub first_scratch : (n m : ℕ) → ℕ
first_scratch n m = first_result n m + result_count n m
