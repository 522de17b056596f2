-- The limits of the unit, together (document 01, 'Tables and sealing').
-- As they stood with three numbers a bid, word for word, as far as `AsBefore` needs them. Nothing here is used by the unit.
use Rattle.std.specs.Prelude.{ℕ}

-- "n is the bid count, 0 to 64"
abbrev pub bid_limit : ℕ
bid_limit = 64

-- "m is the pool count, 1 to 4"
abbrev pub pool_limit : ℕ
pool_limit = 4

-- "limit price −30,000 to 30,000"
abbrev pub price_limit : ℕ
price_limit = 30000

-- "quantity −65,535 to 65,535"
abbrev pub quantity_limit : ℕ
quantity_limit = 65535

-- "the most that line a to b carries: 0 to 1,000,000"
abbrev pub capacity_limit : ℕ
capacity_limit = 1000000

-- "The sheet is 4,096 cells"
abbrev pub cell_count : ℕ
cell_count = 4096

-- "A bid is three signed 32-bit numbers"
abbrev pub bid_numbers : ℕ
bid_numbers = 3

-- "pool .., limit price .., quantity": the places of the last two; the pool comes first
abbrev pub price_place : ℕ
price_place = 1

abbrev pub quantity_place : ℕ
quantity_place = 2
