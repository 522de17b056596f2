-- The books of document 01's 'Proved examples', 1 to 7, and example 2 as it is read and printed. "Bids are written (pool, price, quantity)"; each
-- has the hundredths 0.
use Rattle.std.specs.Prelude.{ℕ, List, [], ◌∷◌, pos, neg_ℤ}
use Rattle.definitions.specs.Book.{Book, book}

-- "m 1; (1,20,−10), (1,30,6)"
unfoldable pub book_one : Book
book_one = book 2 1 (pos 1 ∷ pos 20 ∷ neg_ℤ (pos 10) ∷ pos 0 ∷ pos 1 ∷ pos 30 ∷ pos 6 ∷ pos 0 ∷ []) (pos 0 ∷ [])

-- "m 2, line 1 to 2 carries 3, the other 0; (1,20,−10), (2,30,6)"
unfoldable pub book_two : Book
book_two = book 2 2 (pos 1 ∷ pos 20 ∷ neg_ℤ (pos 10) ∷ pos 0 ∷ pos 2 ∷ pos 30 ∷ pos 6 ∷ pos 0 ∷ []) (pos 0 ∷ pos 3 ∷ pos 0 ∷ pos 0 ∷ [])

-- "m 1; (1,25,−5), (1,25,5)"
unfoldable pub book_three : Book
book_three = book 2 1 (pos 1 ∷ pos 25 ∷ neg_ℤ (pos 5) ∷ pos 0 ∷ pos 1 ∷ pos 25 ∷ pos 5 ∷ pos 0 ∷ []) (pos 0 ∷ [])

-- "m 1; (1,10,−5), (1,30,4), (1,30,4)"
unfoldable pub book_four : Book
book_four = book 3 1 (pos 1 ∷ pos 10 ∷ neg_ℤ (pos 5) ∷ pos 0 ∷ pos 1 ∷ pos 30 ∷ pos 4 ∷ pos 0 ∷ pos 1 ∷ pos 30 ∷ pos 4 ∷ pos 0 ∷ []) (pos 0 ∷ [])

-- "m 1; (1,−10,−4), (1,−20,4)"
unfoldable pub book_five : Book
book_five = book 2 1 (pos 1 ∷ neg_ℤ (pos 10) ∷ neg_ℤ (pos 4) ∷ pos 0 ∷ pos 1 ∷ neg_ℤ (pos 20) ∷ pos 4 ∷ pos 0 ∷ []) (pos 0 ∷ [])

-- "m 3, 1 to 2 carries 5, 2 to 3 carries 2, else 0; (1,10,−9), (2,15,4), (3,40,6)"
unfoldable pub book_six : Book
book_six =
    book 3 3 (pos 1 ∷ pos 10 ∷ neg_ℤ (pos 9) ∷ pos 0 ∷ pos 2 ∷ pos 15 ∷ pos 4 ∷ pos 0 ∷ pos 3 ∷ pos 40 ∷ pos 6 ∷ pos 0 ∷ [])
    (pos 0 ∷ pos 5 ∷ pos 0 ∷ pos 0 ∷ pos 0 ∷ pos 2 ∷ pos 0 ∷ pos 0 ∷ pos 0 ∷ [])

-- "n 0, m 2, both lines carry 7"
unfoldable pub book_seven : Book
book_seven = book 0 2 [] (pos 0 ∷ pos 7 ∷ pos 7 ∷ pos 0 ∷ [])

-- "For example 2, read as `2 2 1 20 -10 2 30 6 0 3 0 0`", with hundredths of 0: `2 2 1 20 -10 0 2 30 6 0 0 3 0 0`
unfoldable pub text_two : List ℕ
text_two =
    50 ∷ 32 ∷ 50 ∷ 32 ∷ 49 ∷ 32 ∷ 50 ∷ 48 ∷ 32 ∷ 45 ∷ 49 ∷ 48 ∷ 32 ∷ 48 ∷ 32
    ∷ 50 ∷ 32 ∷ 51 ∷ 48 ∷ 32 ∷ 54 ∷ 32 ∷ 48 ∷ 32 ∷ 48 ∷ 32 ∷ 51 ∷ 32 ∷ 48 ∷ 32 ∷ 48 ∷ []

-- "it prints, in full", with the prices of request 4, "20 and 30", and prices and welfare "as whole hundredths": `bid 1 3`, `bid 2 3`, `line 1 2 3`,
-- `price 1 2000`, `price 2 3000`, `welfare 3000`, each on a line
unfoldable pub printed_two : List ℕ
printed_two =
    98 ∷ 105 ∷ 100 ∷ 32 ∷ 49 ∷ 32 ∷ 51 ∷ 10
    ∷ 98 ∷ 105 ∷ 100 ∷ 32 ∷ 50 ∷ 32 ∷ 51 ∷ 10
    ∷ 108 ∷ 105 ∷ 110 ∷ 101 ∷ 32 ∷ 49 ∷ 32 ∷ 50 ∷ 32 ∷ 51 ∷ 10
    ∷ 112 ∷ 114 ∷ 105 ∷ 99 ∷ 101 ∷ 32 ∷ 49 ∷ 32 ∷ 50 ∷ 48 ∷ 48 ∷ 48 ∷ 10
    ∷ 112 ∷ 114 ∷ 105 ∷ 99 ∷ 101 ∷ 32 ∷ 50 ∷ 32 ∷ 51 ∷ 48 ∷ 48 ∷ 48 ∷ 10
    ∷ 119 ∷ 101 ∷ 108 ∷ 102 ∷ 97 ∷ 114 ∷ 101 ∷ 32 ∷ 51 ∷ 48 ∷ 48 ∷ 48 ∷ 10 ∷ []
