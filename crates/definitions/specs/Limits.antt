-- The limits of the unit, together (document 01, 'Tables and sealing', and document 02, request 5).
use Rattle.std.specs.Prelude.{ℕ}

-- "n is the bid count, 0 to 64"
abbrev pub bid_limit : ℕ
bid_limit = 64

-- "m is the pool count, 1 to 4"
abbrev pub pool_limit : ℕ
pool_limit = 4

-- "limit price −30,000 to 30,000": of its whole part
abbrev pub whole_limit : ℕ
whole_limit = 30000

-- "hundredths, 0 to 99"
abbrev pub hundredths_limit : ℕ
hundredths_limit = 99

-- how many hundredths make one
abbrev pub hundred : ℕ
hundred = 100

-- "a price above 30,000.00": in hundredths
abbrev pub price_limit : ℕ
price_limit = 3000000

-- "quantity −65,535 to 65,535"
abbrev pub quantity_limit : ℕ
quantity_limit = 65535

-- "the most that line a to b carries: 0 to 1,000,000"
abbrev pub capacity_limit : ℕ
capacity_limit = 1000000

-- "The sheet is 4,096 cells"
abbrev pub cell_count : ℕ
cell_count = 4096

-- p, "each an unsigned 32-bit number below p"
abbrev pub modulus : ℕ
modulus = 2147483647

-- "a residue above 1,073,741,823 reads as itself minus p"
abbrev pub greatest_positive : ℕ
greatest_positive = 1073741823

-- "A bid is three signed 32-bit numbers" in document 01; in document 02 "A bid gains a fourth and last number"
abbrev pub bid_numbers : ℕ
bid_numbers = 4

-- "pool .., limit price .., quantity", and "last" the hundredths: the places of the last three in a bid's row of the table; the pool comes first
abbrev pub price_place : ℕ
price_place = 1

abbrev pub quantity_place : ℕ
quantity_place = 2

abbrev pub hundredths_place : ℕ
hundredths_place = 3

-- "for each pool two cells, its price and a presence cell"; now "a pool's result takes three (price, hundredths, presence ..)"
abbrev pub pool_results : ℕ
pool_results = 3

-- the places of the last two among these; the price comes first
abbrev pub hundredths_result : ℕ
hundredths_result = 1

abbrev pub presence_result : ℕ
presence_result = 2
