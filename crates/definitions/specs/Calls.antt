-- Each call: one function from all its input to its refusal, and what it then leaves and gives (document 01, 'Who is turned away', with refusal 5 and
-- the results as document 02, request 5, has them).
-- "Numbers 1, 2, 3 come first, lowest first, then 13, 14, 15 in this order, then bids one by one (4, 5, 6), then capacities .. Then orders".
use Rattle.std.specs.Prelude.{ℕ, zero, suc, ◌+◌, ◌*◌, ◌≡◌, Bool, cond, ◌&&◌, ◌||◌, List, map, ltb, eqb, length, get_or, take, drop, ℤ, pos, neg_ℤ}
use Rattle.std.specs.Int.Signed.{le_z}
use Rattle.definitions.specs.Limits.{bid_limit, pool_limit, whole_limit, hundredths_limit, price_limit, quantity_limit, capacity_limit, cell_count, modulus, bid_numbers, pool_results, hundredths_result, presence_result}
use Rattle.definitions.specs.Arithmetic.{within, eq_z, reading}
use Rattle.definitions.specs.Book.{Book, pool, whole_price, quantity, hundredths, in_hundredths, capacity_entry}
use Rattle.definitions.specs.Sheet.{sealed_sheet, first_result, result_count}
use Rattle.definitions.specs.Machine.{cell, run_of}
use Rattle.definitions.specs.Bytes.{parse}
use Rattle.definitions.specs.Answers.{Refusal, none, refuse, numbered, first, unless}

-- the first refusal among f i, f (i + 1), .., of which there are k
unfoldable pub first_from : (i k : ℕ) → (ℕ → Refusal) → Refusal
first_from i zero f = none
first_from i (suc k) f = first (f i) (first_from (suc i) k f)

-- ---- The exchange, by counts

-- 2, "m is 0 or above 4"
abbrev pub pools_refusal : (m : ℕ) → Refusal
pools_refusal m = cond (eqb m 0 || ltb pool_limit m) (refuse 2 0) none

-- 1, "n above 64", and 2
abbrev pub counts_refusal : (n m : ℕ) → Refusal
counts_refusal n m = cond (ltb bid_limit n) (refuse 1 0) (pools_refusal m)

-- 3, "a slice has another length than stated"
abbrev pub length_refusal : Bool → Refusal
length_refusal asStated = cond asStated none (refuse 3 0)

-- ---- A bidder

-- "limit price −30,000 to 30,000"; "Hundredths out of range, or a price above 30,000.00, count as refusal 5."
abbrev pub price_in_range : (whole hundredths : ℤ) → Bool
price_in_range whole hundredths =
    within (neg_ℤ (pos whole_limit)) (pos whole_limit) whole
    && (within (pos 0) (pos hundredths_limit) hundredths && le_z (in_hundredths whole hundredths) (pos price_limit))

-- 4, 5, 6, "pool, price, quantity beyond its limits": the number, 0 for none. A bid's numbers stand in the order of the table.
abbrev pub bid_fault : ℕ → (pool whole quantity hundredths : ℤ) → ℕ
bid_fault m pool whole quantity hundredths =
    cond (within (pos 1) (pos m) pool)
    (cond (price_in_range whole hundredths)
    (cond (within (neg_ℤ (pos quantity_limit)) (pos quantity_limit) quantity) 0 6)
    5)
    4

-- "A single bid can also be judged alone, given m." "Place: the bid (0 if judged alone)."
abbrev pub bid_refusal : ℕ → (pool whole quantity hundredths : ℤ) → Refusal
bid_refusal m pool whole quantity hundredths = first (pools_refusal m) (numbered (bid_fault m pool whole quantity hundredths) 0)

-- "then bids one by one"
unfoldable pub bids_refusal : Book → Refusal
bids_refusal B =
    first_from 0 B.n (λ i. numbered (bid_fault B.m (pool B i) (whole_price B i) (quantity B i) (hundredths B i)) (i + 1))

-- ---- A line owner

-- 7, "a capacity off the diagonal out of range"; 8, "a diagonal entry not 0"
abbrev pub capacity_fault : (diagonal : Bool) → ℤ → ℕ
capacity_fault diagonal entry =
    cond diagonal (cond (eq_z entry (pos 0)) 0 8) (cond (within (pos 0) (pos capacity_limit) entry) 0 7)

-- "Place: entry by rows, from 1."
abbrev pub entry_refusal : Book → (a b : ℕ) → Refusal
entry_refusal B a b = numbered (capacity_fault (eqb a b) (capacity_entry B a b)) (a * B.m + b + 1)

-- of one row: its first bad entry
unfoldable pub row_refusal : Book → ℕ → Refusal
row_refusal B a = first_from 0 B.m (λ b. entry_refusal B a b)

-- "the first bad capacity in row order ends the search"
unfoldable pub capacities_refusal : Book → Refusal
capacities_refusal B = first_from 0 B.m (λ a. row_refusal B a)

-- ---- Sealing

-- the tables' lengths are those stated
abbrev pub tables_right : Book → Bool
tables_right B = eqb (length B.bids) (bid_numbers * B.n) && eqb (length B.capacities) (B.m * B.m)

-- of a book and the length of the sheet lent
unfoldable pub seal_refusal : Book → (cells : ℕ) → Refusal
seal_refusal B cells =
    first (counts_refusal B.n B.m)
    (first (length_refusal (tables_right B && eqb cells cell_count))
    (first (bids_refusal B) (capacities_refusal B)))

-- "sealing accepts it when it gives no refusal"
abbrev pub AcceptedBook : Book → Type 0
AcceptedBook B = seal_refusal B cell_count ≡ none

-- the sheet that sealing leaves
unfoldable pub seal_sheet : Book → List ℕ → List ℕ
seal_sheet B sheet = unless (seal_refusal B (length sheet)) (sealed_sheet B) sheet

-- ---- The host

-- 15, "a sheet given to runner or opening has a cell of p or more". "Place .. the first such cell."
unfoldable pub cells_refusal : List ℕ → Refusal
cells_refusal sheet = first_from 0 (length sheet) (λ c. cond (ltb (cell sheet c) modulus) none (refuse 15 c))

-- ---- Opening

-- of n, m and the number of results: 1, 2, 3
abbrev pub results_refusal : (n m results : ℕ) → Refusal
results_refusal n m results = first (counts_refusal n m) (length_refusal (eqb results (result_count n m)))

-- with the sheet: its length too, then 15
unfoldable pub open_refusal : (n m : ℕ) (sheet : List ℕ) (results : ℕ) → Refusal
open_refusal n m sheet results =
    first (results_refusal n m results)
    (first (length_refusal (eqb (length sheet) cell_count))
    (cells_refusal sheet))

-- "Opening copies the signed readings of all .. result cells to a slice of that length": "n + m × m + 3 × m cells"
unfoldable pub opened_results : (n m : ℕ) (sheet : List ℕ) → List ℤ
opened_results n m sheet = map reading (take (result_count n m) (drop (first_result n m) sheet))

-- one of the opened results: n amounts, m × m flows, then the results of each pool
abbrev pub result_at : List ℤ → ℕ → ℤ
result_at results i = get_or results i (pos 0)

-- the place of a flow among them, of a pool's first number, which is its price
abbrev pub flow_place : (n m a b : ℕ) → ℕ
flow_place n m a b = n + (a * m + b)

abbrev pub pool_place : (n m p : ℕ) → ℕ
pool_place n m p = n + m * m + pool_results * p

-- of its hundredths
abbrev pub pool_hundredths_place : (n m p : ℕ) → ℕ
pool_hundredths_place n m p = pool_place n m p + hundredths_result

-- and of its presence
abbrev pub presence_place : (n m p : ℕ) → ℕ
presence_place n m p = pool_place n m p + presence_result

-- the accepted amounts among them, and the flows
abbrev pub amounts_of : (n : ℕ) (results : List ℤ) → List ℤ
amounts_of n results = take n results

abbrev pub flows_of : (n m : ℕ) (results : List ℤ) → List ℤ
flows_of n m results = take (m * m) (drop n results)

-- the slice that opening leaves
unfoldable pub open_slice : (n m : ℕ) (sheet : List ℕ) (out : List ℤ) → List ℤ
open_slice n m sheet out = unless (open_refusal n m sheet (length out)) (opened_results n m sheet) out

-- ---- The runner: "checks all its bytes, then runs them and gives the count of orders"

-- 3, then 15, "Then orders, number by number"; "No bytes is an accepted run of 0 orders."
unfoldable pub run_refusal : (sheet bytes : List ℕ) → Refusal
run_refusal sheet bytes =
    first (length_refusal (eqb (length sheet) cell_count))
    (first (cells_refusal sheet) (parse bytes).refusal)

-- the sheet that the runner leaves
unfoldable pub run_sheet : (sheet bytes : List ℕ) → List ℕ
run_sheet sheet bytes = unless (run_refusal sheet bytes) (run_of (parse bytes).orders sheet) sheet

-- "counts .. are then 0"
unfoldable pub run_count : (sheet bytes : List ℕ) → ℕ
run_count sheet bytes = unless (run_refusal sheet bytes) (length (parse bytes).orders) 0
