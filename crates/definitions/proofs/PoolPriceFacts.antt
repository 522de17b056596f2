-- Steps, ways and prices on small books, by computation.
use Rattle.std.proofs.Common.{ℕ, ◌≡◌, refl, true, false, [], ◌∷◌, pos, neg_ℤ}
use Rattle.definitions.specs.Arithmetic.{any_to}
use Rattle.definitions.specs.Book.{Book, book}
use Rattle.definitions.specs.Examples.{book_one, book_two, book_four, book_five}
use Rattle.definitions.specs.Clearing.{Clearing, used}
use Rattle.definitions.specs.PoolPrice.{one_step, reaches_over, reaches, missing, present, lower_price, least_price, pool_price, price_residue, hundredths_residue, presence}
use Rattle.definitions.proofs.ClearingFacts.{listed, merit, parted}

-- ---- one step: along a line that lacks one unit, a full one, one of capacity 0, and back along a line that carries something

-- two pools, a line each way that carries 7
both_lines : Book
both_lines = book 0 2 [] (pos 0 ∷ pos 7 ∷ pos 7 ∷ pos 0 ∷ [])

steps :
    one_step both_lines (listed 2 [] (0 ∷ 6 ∷ 0 ∷ 0 ∷ [])).flow 0 1
    ∷ one_step both_lines (listed 2 [] (0 ∷ 7 ∷ 0 ∷ 0 ∷ [])).flow 0 1
    ∷ one_step both_lines (listed 2 [] (0 ∷ 7 ∷ 1 ∷ 0 ∷ [])).flow 0 1
    ∷ one_step book_two (listed 2 [] (0 ∷ 3 ∷ 0 ∷ 0 ∷ [])).flow 0 1
    ∷ one_step book_two (listed 2 [] (0 ∷ 3 ∷ 0 ∷ 0 ∷ [])).flow 1 0
    ∷ one_step book_two (listed 2 [] (0 ∷ 0 ∷ 0 ∷ 0 ∷ [])).flow 1 0
    ∷ []
    ≡ true ∷ false ∷ true ∷ false ∷ true ∷ false ∷ []
unfolding both_lines book_two
steps = refl

-- ---- ways

-- four pools, lines 1 to 4, 4 to 3 and 3 to 2 of capacity 4
row : Book
row =
    book 0 4 []
    (pos 0 ∷ pos 0 ∷ pos 0 ∷ pos 4 ∷ pos 0 ∷ pos 0 ∷ pos 0 ∷ pos 0 ∷ pos 0 ∷ pos 4 ∷ pos 0 ∷ pos 0 ∷ pos 0 ∷ pos 0 ∷ pos 4 ∷ pos 0 ∷ [])

-- flows: so much on the last line, nothing on the others
abbrev carried : ℕ → ℕ → ℕ → ℕ
carried k = (listed 4 [] (0 ∷ 0 ∷ 0 ∷ 0 ∷ 0 ∷ 0 ∷ 0 ∷ 0 ∷ 0 ∷ k ∷ 0 ∷ 0 ∷ 0 ∷ 0 ∷ 0 ∷ 0 ∷ [])).flow

-- pool 1 reaches pool 2 in three steps while the last line is not full, and pool 3 even then; pool 2 reaches pool 3 while the line carries something;
-- pool 1 reaches itself, and none of the others reaches it
ways :
    reaches row (carried 3) 0 1 ∷ reaches row (carried 4) 0 1 ∷ reaches row (carried 4) 0 2
    ∷ reaches row (carried 4) 1 2 ∷ reaches row (carried 0) 1 2
    ∷ reaches row (carried 4) 0 0 ∷ reaches row (carried 3) 1 0 ∷ reaches row (carried 3) 2 0 ∷ reaches row (carried 3) 3 0
    ∷ []
    ≡ true ∷ false ∷ true ∷ true ∷ false ∷ true ∷ false ∷ false ∷ false ∷ []
unfolding row reaches reaches_over
ways = refl

-- the same pools in a row by their numbers, lines 1 to 2, 2 to 3 and 3 to 4 of capacity 1
rising : Book
rising =
    book 0 4 []
    (pos 0 ∷ pos 1 ∷ pos 0 ∷ pos 0 ∷ pos 0 ∷ pos 0 ∷ pos 1 ∷ pos 0 ∷ pos 0 ∷ pos 0 ∷ pos 0 ∷ pos 1 ∷ pos 0 ∷ pos 0 ∷ pos 0 ∷ pos 0 ∷ [])

rising_ways :
    reaches rising (listed 4 [] []).flow 0 3 ∷ reaches rising (listed 4 [] []).flow 3 0
    ∷ reaches rising (listed 4 [] (0 ∷ 1 ∷ 0 ∷ 0 ∷ 0 ∷ 0 ∷ 1 ∷ 0 ∷ 0 ∷ 0 ∷ 0 ∷ 1 ∷ [])).flow 0 3
    ∷ reaches rising (listed 4 [] (0 ∷ 1 ∷ 0 ∷ 0 ∷ 0 ∷ 0 ∷ 1 ∷ 0 ∷ 0 ∷ 0 ∷ 0 ∷ 1 ∷ [])).flow 3 0
    ∷ []
    ≡ true ∷ false ∷ false ∷ true ∷ []
unfolding rising reaches reaches_over
rising_ways = refl

-- ---- prices in one pool: what is left of a sale, what a purchase takes, nothing of a withdrawn bid

pool_prices :
    pool_price book_one (listed 1 (6 ∷ 6 ∷ []) []) 0
    ∷ pool_price book_four (listed 1 (5 ∷ 4 ∷ 1 ∷ []) []) 0
    ∷ pool_price book_five (listed 1 [] []) 0
    ∷ pool_price book_five (listed 1 (4 ∷ 4 ∷ []) []) 0
    ∷ pool_price book_five (listed 1 (2 ∷ 2 ∷ []) []) 0
    ∷ pool_price merit (listed 1 [] []) 0
    ∷ pool_price merit (listed 1 (0 ∷ 0 ∷ 1 ∷ 4 ∷ 5 ∷ 0 ∷ []) []) 0
    ∷ pool_price merit (listed 1 (5 ∷ 5 ∷ 1 ∷ 4 ∷ 5 ∷ 0 ∷ []) []) 0
    ∷ pool_price merit (listed 1 (5 ∷ 5 ∷ 0 ∷ 0 ∷ 5 ∷ 0 ∷ []) []) 0
    ∷ []
    ≡ present (pos 20) (pos 0) ∷ present (pos 30) (pos 0) ∷ present (neg_ℤ (pos 10)) (pos 0) ∷ present (neg_ℤ (pos 20)) (pos 0)
    ∷ present (neg_ℤ (pos 20)) (pos 0) ∷ present (pos 10) (pos 0) ∷ present (pos 30) (pos 0) ∷ present (pos 30) (pos 0) ∷ missing ∷ []
unfolding book_one book_four book_five merit pool_price least_price any_to used reaches reaches_over
pool_prices = refl

-- by the hundredths too, and in both parts, the whole one rounded down: 25.10 before 25.40 and 26.00, and −2.75 before all of these
parted_prices :
    pool_price parted (listed 1 (0 ∷ 0 ∷ 2 ∷ 0 ∷ 2 ∷ []) []) 0
    ∷ pool_price parted (listed 1 (2 ∷ 2 ∷ 2 ∷ 0 ∷ 2 ∷ []) []) 0
    ∷ pool_price parted (listed 1 (0 ∷ 2 ∷ 2 ∷ 0 ∷ 2 ∷ []) []) 0
    ∷ pool_price parted (listed 1 [] []) 0
    ∷ []
    ≡ present (pos 25) (pos 10) ∷ present (pos 26) (pos 0) ∷ present (pos 25) (pos 40) ∷ present (neg_ℤ (pos 3)) (pos 25) ∷ []
unfolding parted pool_price least_price any_to used reaches reaches_over
parted_prices = refl

-- the greater of two prices stands first or last; equal ones
lowest :
    lower_price (present (pos 25) (pos 40)) (pos 25) (pos 10)
    ∷ lower_price (present (pos 25) (pos 10)) (pos 25) (pos 40)
    ∷ lower_price (present (neg_ℤ (pos 3)) (pos 99)) (neg_ℤ (pos 2)) (pos 0)
    ∷ lower_price (present (neg_ℤ (pos 2)) (pos 0)) (neg_ℤ (pos 3)) (pos 99)
    ∷ lower_price (present (pos 7) (pos 7)) (pos 7) (pos 7)
    ∷ lower_price missing (neg_ℤ (pos 1)) (pos 50)
    ∷ []
    ≡ present (pos 25) (pos 10) ∷ present (pos 25) (pos 10) ∷ present (neg_ℤ (pos 3)) (pos 99) ∷ present (neg_ℤ (pos 3)) (pos 99)
    ∷ present (pos 7) (pos 7) ∷ present (neg_ℤ (pos 1)) (pos 50) ∷ []
lowest = refl

-- the three cells of a price: −0.50 is −1 and 50; a price of 0 is present; a missing one has three zeros
price_cells :
    price_residue (present (neg_ℤ (pos 1)) (pos 50)) ∷ hundredths_residue (present (neg_ℤ (pos 1)) (pos 50)) ∷ presence (present (neg_ℤ (pos 1)) (pos 50))
    ∷ price_residue (present (pos 0) (pos 0)) ∷ hundredths_residue (present (pos 0) (pos 0)) ∷ presence (present (pos 0) (pos 0))
    ∷ price_residue missing ∷ hundredths_residue missing ∷ presence missing ∷ []
    ≡ 2147483646 ∷ 50 ∷ 1 ∷ 0 ∷ 0 ∷ 1 ∷ 0 ∷ 0 ∷ 0 ∷ []
price_cells = refl

-- ---- and in several: bids of pools that reach the pool, not of those that it reaches

-- example 2: "the prices become 20 and 30"
stated_prices : pool_price book_two (listed 2 (3 ∷ 3 ∷ []) (0 ∷ 3 ∷ 0 ∷ 0 ∷ [])) 0 ∷ pool_price book_two (listed 2 (3 ∷ 3 ∷ []) (0 ∷ 3 ∷ 0 ∷ 0 ∷ [])) 1 ∷ []
    ≡ present (pos 20) (pos 0) ∷ present (pos 30) (pos 0) ∷ []
unfolding book_two pool_price least_price any_to used reaches reaches_over
stated_prices = refl

-- lines 1 to 2, 2 to 4, 1 to 3 and 3 to 4 carry 4; (1,10,−4), (2,20,−5), (4,30,8). 4 are sent by pool 3, 4 from pool 2: line 1 to 2 is open, 2 to 4 is full
two_ways : Book
two_ways =
    book 3 4 (pos 1 ∷ pos 10 ∷ neg_ℤ (pos 4) ∷ pos 0 ∷ pos 2 ∷ pos 20 ∷ neg_ℤ (pos 5) ∷ pos 0 ∷ pos 4 ∷ pos 30 ∷ pos 8 ∷ pos 0 ∷ [])
    (pos 0 ∷ pos 4 ∷ pos 4 ∷ pos 0 ∷ pos 0 ∷ pos 0 ∷ pos 0 ∷ pos 4 ∷ pos 0 ∷ pos 0 ∷ pos 0 ∷ pos 4 ∷ pos 0 ∷ pos 0 ∷ pos 0 ∷ pos 0 ∷ [])

abbrev sent : Clearing
sent = listed 4 (4 ∷ 4 ∷ 8 ∷ []) (0 ∷ 0 ∷ 4 ∷ 0 ∷ 0 ∷ 0 ∷ 0 ∷ 4 ∷ 0 ∷ 0 ∷ 0 ∷ 4 ∷ 0 ∷ 0 ∷ 0 ∷ 0 ∷ [])

sent_prices :
    pool_price two_ways sent 0 ∷ pool_price two_ways sent 1 ∷ pool_price two_ways sent 2 ∷ pool_price two_ways sent 3 ∷ []
    ≡ present (pos 30) (pos 0) ∷ present (pos 20) (pos 0) ∷ present (pos 30) (pos 0) ∷ present (pos 30) (pos 0) ∷ []
unfolding two_ways pool_price least_price any_to used reaches reaches_over
sent_prices = refl

-- a sale in pool 2, which line 2 to 3 can take to pool 3 and no line to pool 1
one_sale : Book
one_sale = book 1 3 (pos 2 ∷ neg_ℤ (pos 7) ∷ neg_ℤ (pos 1) ∷ pos 0 ∷ []) (pos 0 ∷ pos 9 ∷ pos 0 ∷ pos 0 ∷ pos 0 ∷ pos 1 ∷ pos 0 ∷ pos 0 ∷ pos 0 ∷ [])

reached_prices :
    pool_price one_sale (listed 3 [] []) 0 ∷ pool_price one_sale (listed 3 [] []) 1 ∷ pool_price one_sale (listed 3 [] []) 2 ∷ []
    ≡ missing ∷ present (neg_ℤ (pos 7)) (pos 0) ∷ present (neg_ℤ (pos 7)) (pos 0) ∷ []
unfolding one_sale pool_price least_price any_to used reaches reaches_over
reached_prices = refl
