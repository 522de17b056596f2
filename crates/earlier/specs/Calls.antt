-- Each call: one function from all its input to its refusal, and what it then leaves and gives (document 01, 'Who is turned away').
-- "Numbers 1, 2, 3 come first, lowest first, then 13, 14, 15 in this order, then bids one by one (4, 5, 6), then capacities .. Then orders".
-- As they stood with three numbers a bid, word for word, as far as `AsBefore` needs them. Nothing here is used by the unit.
use Rattle.std.specs.Prelude.{ℕ, zero, suc, ◌+◌, ◌*◌, ◌≡◌, Bool, cond, ◌&&◌, ◌||◌, ltb, eqb, length, ℤ, pos, neg_ℤ}
use Rattle.earlier.specs.Limits.{bid_limit, pool_limit, price_limit, quantity_limit, capacity_limit, cell_count, bid_numbers}
use Rattle.definitions.specs.Arithmetic.{within, eq_z}
use Rattle.earlier.specs.Book.{Book, pool, price, quantity, capacity_entry}
use Rattle.definitions.specs.Answers.{Refusal, none, refuse, numbered, first}

-- the first refusal among f i, f (i + 1), .., of which there are k
unfoldable pub first_from : (i k : ℕ) → (ℕ → Refusal) → Refusal
first_from i zero f = none
first_from i (suc k) f = first (f i) (first_from (suc i) k f)

-- ---- The exchange, by counts

-- 2, "m is 0 or above 4"
abbrev pub pools_refusal : (m : ℕ) → Refusal
pools_refusal m = cond (eqb m 0 || ltb pool_limit m) (refuse 2 0) none

-- 1, "n above 64", and 2
abbrev pub counts_refusal : (n m : ℕ) → Refusal
counts_refusal n m = cond (ltb bid_limit n) (refuse 1 0) (pools_refusal m)

-- 3, "a slice has another length than stated"
abbrev pub length_refusal : Bool → Refusal
length_refusal asStated = cond asStated none (refuse 3 0)

-- ---- A bidder

-- 4, 5, 6, "pool, price, quantity beyond its limits": the number, 0 for none
abbrev pub bid_fault : ℕ → (pool price quantity : ℤ) → ℕ
bid_fault m pool price quantity =
    cond (within (pos 1) (pos m) pool)
    (cond (within (neg_ℤ (pos price_limit)) (pos price_limit) price)
    (cond (within (neg_ℤ (pos quantity_limit)) (pos quantity_limit) quantity) 0 6)
    5)
    4

-- "then bids one by one"
unfoldable pub bids_refusal : Book → Refusal
bids_refusal B = first_from 0 B.n (λ i. numbered (bid_fault B.m (pool B i) (price B i) (quantity B i)) (i + 1))

-- ---- A line owner

-- 7, "a capacity off the diagonal out of range"; 8, "a diagonal entry not 0"
abbrev pub capacity_fault : (diagonal : Bool) → ℤ → ℕ
capacity_fault diagonal entry =
    cond diagonal (cond (eq_z entry (pos 0)) 0 8) (cond (within (pos 0) (pos capacity_limit) entry) 0 7)

-- "Place: entry by rows, from 1."
abbrev pub entry_refusal : Book → (a b : ℕ) → Refusal
entry_refusal B a b = numbered (capacity_fault (eqb a b) (capacity_entry B a b)) (a * B.m + b + 1)

-- of one row: its first bad entry
unfoldable pub row_refusal : Book → ℕ → Refusal
row_refusal B a = first_from 0 B.m (λ b. entry_refusal B a b)

-- "the first bad capacity in row order ends the search"
unfoldable pub capacities_refusal : Book → Refusal
capacities_refusal B = first_from 0 B.m (λ a. row_refusal B a)

-- ---- Sealing

-- the tables' lengths are those stated
abbrev pub tables_right : Book → Bool
tables_right B = eqb (length B.bids) (bid_numbers * B.n) && eqb (length B.capacities) (B.m * B.m)

-- of a book and the length of the sheet lent
unfoldable pub seal_refusal : Book → (cells : ℕ) → Refusal
seal_refusal B cells =
    first (counts_refusal B.n B.m)
    (first (length_refusal (tables_right B && eqb cells cell_count))
    (first (bids_refusal B) (capacities_refusal B)))

-- "sealing accepts it when it gives no refusal"
abbrev pub AcceptedBook : Book → Type 0
AcceptedBook B = seal_refusal B cell_count ≡ none
