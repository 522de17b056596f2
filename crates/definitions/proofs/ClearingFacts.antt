-- Merit order, used amounts, dictionary order, feasibility and welfare on small books, by computation.
use Rattle.std.proofs.Common.{ℕ, zero, suc, ◌+◌, ◌*◌, ◌≡◌, refl, true, false, List, [], ◌∷◌, arith, get_or, pos, neg_ℤ}
use Rattle.definitions.proofs.Cases.{below_one, below_two, below_three, lines_of_two}
use Rattle.definitions.specs.Arithmetic.{sum_to, sum_z}
use Rattle.definitions.specs.Book.{Book, book, whole_price, hundredths, price}
use Rattle.definitions.specs.Examples.{book_one, book_two, book_four, book_five}
use Rattle.definitions.specs.Clearing.{Clearing, Feasible, Best, Permitted, NoGreater, equal, less, sold, bought, inflow, outflow, welfare, before, used}

-- a clearing from its lists: the amounts, and the flows of m pools by rows
abbrev pub listed : ℕ → List ℕ → List ℕ → Clearing
listed m xs fs = record { accepted = λ i. get_or xs i 0; flow = λ a b. get_or fs (a * m + b) 0 }

-- ---- the merit order's four clauses, one pool: two sales and two purchases at 30, a sale at 10, a withdrawn bid at −40
unfoldable pub merit : Book
merit =
    book 6 1
    (pos 1 ∷ pos 30 ∷ neg_ℤ (pos 5) ∷ pos 0 ∷ pos 1 ∷ pos 30 ∷ neg_ℤ (pos 5) ∷ pos 0 ∷ pos 1 ∷ pos 30 ∷ pos 4 ∷ pos 0 ∷ pos 1 ∷ pos 30 ∷ pos 4
    ∷ pos 0 ∷ pos 1 ∷ pos 10 ∷ neg_ℤ (pos 5) ∷ pos 0 ∷ pos 1 ∷ neg_ℤ (pos 40) ∷ pos 0 ∷ pos 0 ∷ [])
    (pos 0 ∷ [])

clauses :
    before merit 4 0 ∷ before merit 0 4 ∷ before merit 5 4 ∷ before merit 4 5
    ∷ before merit 1 2 ∷ before merit 2 1
    ∷ before merit 0 1 ∷ before merit 1 0
    ∷ before merit 3 2 ∷ before merit 2 3
    ∷ before merit 3 3 ∷ []
    ≡ true ∷ false ∷ true ∷ false ∷ true ∷ false ∷ true ∷ false ∷ true ∷ false ∷ false ∷ []
unfolding merit before
clauses = refl

-- ---- the price in hundredths: "Two offers at 25 are equal today even if their owners meant 25.10 and 25.40"

-- sales at 25.40, 25.10 and −2.75, purchases at 25.10 and 26.00, of 2 each
unfoldable pub parted : Book
parted =
    book 5 1
    (pos 1 ∷ pos 25 ∷ neg_ℤ (pos 2) ∷ pos 40 ∷ pos 1 ∷ pos 25 ∷ neg_ℤ (pos 2) ∷ pos 10 ∷ pos 1 ∷ neg_ℤ (pos 3) ∷ neg_ℤ (pos 2) ∷ pos 25
    ∷ pos 1 ∷ pos 25 ∷ pos 2 ∷ pos 10 ∷ pos 1 ∷ pos 26 ∷ pos 2 ∷ pos 0 ∷ [])
    (pos 0 ∷ [])

-- "(−3 with 25 is −2.75)"
pub read_prices : price parted 2 ∷ whole_price parted 2 ∷ hundredths parted 2 ∷ price parted 0 ∷ price parted 4 ∷ []
    ≡ neg_ℤ (pos 275) ∷ neg_ℤ (pos 3) ∷ pos 25 ∷ pos 2540 ∷ pos 2600 ∷ []
unfolding parted
read_prices = refl

-- the lower first, by its hundredths too; at equal price sales before purchases
parted_clauses :
    before parted 1 0 ∷ before parted 0 1 ∷ before parted 2 1 ∷ before parted 1 3 ∷ before parted 3 1 ∷ before parted 3 0
    ∷ before parted 0 3 ∷ before parted 0 4 ∷ before parted 4 0 ∷ []
    ≡ true ∷ false ∷ true ∷ true ∷ false ∷ true ∷ false ∷ true ∷ false ∷ []
unfolding parted before
parted_clauses = refl

-- ---- example 4: of two equal purchases the first is served first, since the later one comes first as used amount
right : Clearing
right = listed 1 (5 ∷ 4 ∷ 1 ∷ []) []

turned : Clearing
turned = listed 1 (5 ∷ 1 ∷ 4 ∷ []) []

right_feasible : Feasible book_four right
unfolding book_four right sold bought inflow outflow sum_to
right_feasible = record {
  amounts = below_three _ (omega arith) (omega arith) (omega arith);
  flows = λ a b l r. omega arith;
  balance = below_one _ refl;
}

-- at bid 3, index 2, `right` uses 3 and `turned` 0, with the sale equal: so `turned` is not best
not_turned : Best book_four turned → ⊥
unfolding book_four right turned used before
not_turned best = go (best.greatest right right_feasible)
  where
    go : NoGreater book_four (used book_four right.accepted) (used book_four turned.accepted) → ⊥
    go (equal h) = omega (arith, h 1 (omega arith))
    go (less zero l q h) = omega arith
    go (less (suc zero) l q h) = omega (arith, h 2 (omega arith) refl)
    go (less (suc (suc zero)) l q h) = omega arith
    go (less (suc (suc (suc i))) l q h) = omega arith

-- ---- example 2: what it accepts, a flow above its line, an amount above its size, a pool out of balance; and a best clearing that is not feasible
stated : Clearing
stated = listed 2 (3 ∷ 3 ∷ []) (0 ∷ 3 ∷ 0 ∷ 0 ∷ [])

stated_feasible : Feasible book_two stated
unfolding book_two stated sold bought inflow outflow sum_to
stated_feasible = record {
  amounts = below_two _ (omega arith) (omega arith);
  flows = lines_of_two _ (omega arith) (omega arith) (omega arith) (omega arith);
  balance = below_two _ refl refl;
}

above_line : Feasible book_two (listed 2 (4 ∷ 4 ∷ []) (0 ∷ 4 ∷ 0 ∷ 0 ∷ [])) → ⊥
unfolding book_two
above_line h = omega (arith, h.flows 0 1 (omega arith) (omega arith))

above_size : Feasible book_two (listed 2 (3 ∷ 7 ∷ []) (0 ∷ 3 ∷ 0 ∷ 0 ∷ [])) → ⊥
unfolding book_two
above_size h = omega (arith, h.amounts 1 (omega arith))

out_of_balance : Feasible book_two (listed 2 (3 ∷ 2 ∷ []) (0 ∷ 3 ∷ 0 ∷ 0 ∷ [])) → ⊥
unfolding book_two sold bought inflow outflow sum_to
out_of_balance h = omega (arith, h.balance 1 (omega arith))

-- the amounts of example 1's best clearing, with a flow that no line carries
best_is_feasible : Best book_one (listed 1 (6 ∷ 6 ∷ []) (4 ∷ [])) → ⊥
unfolding book_one
best_is_feasible h = omega (arith, h.feasible.flows 0 0 (omega arith) (omega arith))

-- a pair of pools that ships both ways
both_ways : Permitted (book 0 2 [] (pos 0 ∷ pos 7 ∷ pos 7 ∷ pos 0 ∷ [])) (listed 2 [] (0 ∷ 1 ∷ 1 ∷ 0 ∷ [])) → ⊥
both_ways h = omega (arith, h.one_way 0 1 (omega arith) (omega arith) (omega arith))

-- ---- welfare in hundredths of trades at a gain and at a loss, with bids of both signs of price; and with hundredths
welfares :
    welfare book_one (λ i. get_or (5 ∷ 5 ∷ []) i 0)
    ∷ welfare book_five (λ i. get_or (4 ∷ 4 ∷ []) i 0)
    ∷ welfare merit (λ i. get_or (5 ∷ 0 ∷ 4 ∷ 0 ∷ 1 ∷ 0 ∷ []) i 0)
    ∷ welfare parted (λ i. get_or (0 ∷ 1 ∷ 2 ∷ 1 ∷ 2 ∷ []) i 0)
    ∷ []
    ≡ pos 5000 ∷ neg_ℤ (pos 4000) ∷ neg_ℤ (pos 4000) ∷ pos 5750 ∷ []
unfolding book_one book_five merit parted welfare sum_z
welfares = refl
