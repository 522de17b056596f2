-- A book: its counts and its two tables (document 01, 'Tables and sealing', and document 02, request 5, "Hundredths").
-- Document 01 counts bids and pools from 1. Here an index i stands for bid i + 1, and an index a, b or p for pool a + 1, b + 1 or p + 1.
use Rattle.std.specs.Prelude.{ℕ, suc, ◌+◌, ◌*◌, Bool, not, List, get_or, ℤ, pos, nat_abs, ◌+ℤ◌, ◌*ℤ◌}
use Rattle.std.specs.Int.Signed.{lt_z}
use Rattle.definitions.specs.declared.LentBook.{LentBook}
use Rattle.definitions.specs.Limits.{hundred, bid_numbers, price_place, quantity_place, hundredths_place}
use Rattle.definitions.specs.Arithmetic.{eq_z}

-- "A book is n, m and the two tables"
pub record Book : Type 0 where
  pub n : ℕ
  pub m : ℕ
  pub bids : List ℤ
  pub capacities : List ℤ

-- a book of these
abbrev pub book : (n m : ℕ) (bids capacities : List ℤ) → Book
book n m bids capacities = record { n = n; m = m; bids = bids; capacities = capacities }

-- the book whose tables are lent
abbrev pub book_of : LentBook → Book
book_of lent = book lent.n lent.m lent.bids.now lent.capacities.now

-- "A bid is .. signed 32-bit numbers: pool 1 to m"
abbrev pub pool : Book → ℕ → ℤ
pool B i = get_or B.bids (bid_numbers * i) (pos 0)

-- "limit price": its whole part, which the documents call the price where the hundredths stand beside it
abbrev pub whole_price : Book → ℕ → ℤ
whole_price B i = get_or B.bids (bid_numbers * i + price_place) (pos 0)

-- "quantity"
abbrev pub quantity : Book → ℕ → ℤ
quantity B i = get_or B.bids (bid_numbers * i + quantity_place) (pos 0)

-- "a fourth and last number, hundredths"
abbrev pub hundredths : Book → ℕ → ℤ
hundredths B i = get_or B.bids (bid_numbers * i + hundredths_place) (pos 0)

-- "added to the price (−3 with 25 is −2.75)": a price as a number of hundredths
abbrev pub in_hundredths : (whole hundredths : ℤ) → ℤ
in_hundredths whole hundredths = whole *ℤ pos hundred +ℤ hundredths

-- the limit price, by which bids are compared and welfare is summed: in hundredths
abbrev pub price : Book → ℕ → ℤ
price B i = in_hundredths (whole_price B i) (hundredths B i)

-- "positive buys"
abbrev pub purchase : Book → ℕ → Bool
purchase B i = lt_z (pos 0) (quantity B i)

-- "negative sells, 0 is a withdrawn bid and counts as a sale of 0"
abbrev pub sale : Book → ℕ → Bool
sale B i = not (purchase B i)

-- the size of a bid's quantity
abbrev pub size : Book → ℕ → ℕ
size B i = nat_abs (quantity B i)

-- bid i is in pool p
abbrev pub in_pool : Book → ℕ → ℕ → Bool
in_pool B p i = eq_z (pool B i) (pos (suc p))

-- "The capacity table has m × m signed numbers by rows, row a column b being the most that line a to b carries"
abbrev pub capacity_entry : Book → ℕ → ℕ → ℤ
capacity_entry B a b = get_or B.capacities (a * B.m + b) (pos 0)

-- the same as a count; no entry of an accepted book is negative
abbrev pub capacity : Book → ℕ → ℕ → ℕ
capacity B a b = nat_abs (capacity_entry B a b)
