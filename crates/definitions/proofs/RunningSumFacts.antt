-- The welfare summed sales first, on small books: a purchase before a sale, a withdrawn bid, bids of negative price, no bids.
use Rattle.std.proofs.Common.{ℕ, ◌≡◌, refl, [], ◌∷◌, get_or, pos, neg_ℤ}
use Rattle.definitions.specs.Book.{Book, book}
use Rattle.definitions.specs.Examples.{book_seven}
use Rattle.definitions.specs.RunningSum.{running_sum, sum_of_sales, sales_welfare, sum_with_purchases, end_figure}

-- (2,30,6), (1,20,−10), (2,5,0): a purchase, a sale in another pool, a withdrawn bid
mixed : Book
mixed = book 3 2 (pos 2 ∷ pos 30 ∷ pos 6 ∷ pos 0 ∷ pos 1 ∷ pos 20 ∷ neg_ℤ (pos 10) ∷ pos 0 ∷ pos 2 ∷ pos 5 ∷ pos 0 ∷ pos 0 ∷ []) []

-- 3, 3 and 1 of these: no clearing, but it shows on which side the withdrawn bid stands
some : ℕ → ℕ
some i = get_or (3 ∷ 3 ∷ 1 ∷ []) i 0

-- the running sum after no bid, one, two and three: the sales, then the purchases too
after_each :
    sum_of_sales mixed some 0
    ∷ sum_of_sales mixed some 1
    ∷ sum_of_sales mixed some 2
    ∷ sum_of_sales mixed some 3
    ∷ sum_with_purchases mixed some 0
    ∷ sum_with_purchases mixed some 1
    ∷ sum_with_purchases mixed some 2
    ∷ sum_with_purchases mixed some 3
    ∷ []
    ≡ pos 0 ∷ pos 0 ∷ neg_ℤ (pos 6000) ∷ neg_ℤ (pos 6500) ∷ neg_ℤ (pos 6500) ∷ pos 2500 ∷ pos 2500 ∷ pos 2500 ∷ []
unfolding mixed some sum_of_sales sum_with_purchases sales_welfare running_sum
after_each = refl

-- (1,−20,−4), (1,−10,4), of n bids
below_zero : ℕ → Book
below_zero n = book n 1 (pos 1 ∷ neg_ℤ (pos 20) ∷ neg_ℤ (pos 4) ∷ pos 0 ∷ pos 1 ∷ neg_ℤ (pos 10) ∷ pos 4 ∷ pos 0 ∷ []) []

-- the two figures: of the first book; at negative prices, where the sale raises the sum; of the first of these bids alone; of no bids
figures :
    sales_welfare mixed some
    ∷ end_figure mixed some
    ∷ sales_welfare (below_zero 2) (λ i. 4)
    ∷ end_figure (below_zero 2) (λ i. 4)
    ∷ sales_welfare (below_zero 1) (λ i. 4)
    ∷ end_figure (below_zero 1) (λ i. 4)
    ∷ sales_welfare book_seven some
    ∷ end_figure book_seven some
    ∷ []
    ≡ neg_ℤ (pos 6500) ∷ pos 2500 ∷ pos 8000 ∷ pos 4000 ∷ pos 8000 ∷ pos 8000 ∷ pos 0 ∷ pos 0 ∷ []
unfolding mixed some below_zero book_seven sum_of_sales sum_with_purchases sales_welfare end_figure running_sum
figures = refl
