-- The definitions as they stood, on single cases, by computation: document 01's examples 1, 2 and 4 and its edges.
use Rattle.std.proofs.Common.{◌≡◌, refl, true, false, [], ◌∷◌, get_or, pos, neg_ℤ}
use Rattle.definitions.specs.Arithmetic.{sum_z}
use Rattle.definitions.specs.Examples.{book_one, book_two, book_four}
use Rattle.definitions.specs.Answers.{none, refuse}
use Rattle.earlier.specs.Limits.{cell_count}
use Rattle.earlier.specs.Book.{book}
use Rattle.earlier.specs.Earlier as earlier
use Rattle.earlier.specs.Widened.{widened_table, widened_book}

-- "m 1; (1,20,−10), (1,30,6)"
one : earlier.Book
one = book 2 1 (pos 1 ∷ pos 20 ∷ neg_ℤ (pos 10) ∷ pos 1 ∷ pos 30 ∷ pos 6 ∷ []) (pos 0 ∷ [])

-- "m 2, line 1 to 2 carries 3, the other 0; (1,20,−10), (2,30,6)"
two : earlier.Book
two = book 2 2 (pos 1 ∷ pos 20 ∷ neg_ℤ (pos 10) ∷ pos 2 ∷ pos 30 ∷ pos 6 ∷ []) (pos 0 ∷ pos 3 ∷ pos 0 ∷ pos 0 ∷ [])

-- "m 1; (1,10,−5), (1,30,4), (1,30,4)"
four : earlier.Book
four = book 3 1 (pos 1 ∷ pos 10 ∷ neg_ℤ (pos 5) ∷ pos 1 ∷ pos 30 ∷ pos 4 ∷ pos 1 ∷ pos 30 ∷ pos 4 ∷ []) (pos 0 ∷ [])

-- read with hundredths 0 they are the examples' books
read_anew : widened_book one ∷ widened_book two ∷ widened_book four ∷ [] ≡ book_one ∷ book_two ∷ book_four ∷ []
unfolding one two four widened_table book_one book_two book_four
read_anew = refl

-- they were accepted; with a capacity too many, a bid of a pool that is not there, a number too few
refused :
    earlier.seal_refusal one cell_count
    ∷ earlier.seal_refusal two cell_count
    ∷ earlier.seal_refusal four cell_count
    ∷ earlier.seal_refusal (book 0 1 [] (pos 0 ∷ pos 0 ∷ [])) cell_count
    ∷ earlier.seal_refusal (book 1 1 (pos 2 ∷ pos 5 ∷ pos 7 ∷ []) (pos 0 ∷ [])) cell_count
    ∷ earlier.seal_refusal (book 1 1 (pos 1 ∷ pos 5 ∷ []) (pos 0 ∷ [])) cell_count
    ∷ []
    ≡ none ∷ none ∷ none ∷ refuse 3 0 ∷ refuse 4 1 ∷ refuse 3 0 ∷ []
unfolding one two four earlier.seal_refusal earlier.bids_refusal earlier.capacities_refusal earlier.row_refusal earlier.first_from
refused = refl

-- "price 30,000 passes, 30,001 is 5; quantity −65,535 passes, −65,536 is 6"
edges :
    earlier.bid_fault 1 (pos 1) (pos 30000) (pos 1)
    ∷ earlier.bid_fault 1 (pos 1) (pos 30001) (pos 1)
    ∷ earlier.bid_fault 1 (pos 1) (pos 0) (neg_ℤ (pos 65535))
    ∷ earlier.bid_fault 1 (pos 1) (pos 0) (neg_ℤ (pos 65536))
    ∷ []
    ≡ 0 ∷ 5 ∷ 0 ∷ 6 ∷ []
edges = refl

-- of equal purchases the later came first; the sale before both
merit : earlier.before four 2 1 ∷ earlier.before four 1 2 ∷ earlier.before four 0 2 ∷ earlier.before four 2 0 ∷ [] ≡ true ∷ false ∷ true ∷ false ∷ []
unfolding four earlier.before
merit = refl

-- "accepted 6, 6; welfare 60"
worth : earlier.welfare one (λ i. get_or (6 ∷ 6 ∷ []) i 0) ≡ pos 60
unfolding one earlier.welfare sum_z
worth = refl
