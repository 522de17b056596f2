-- What an outcome is not: the shams that document 01 names ('Which sham does it catch?') leave none. And clearing on small books and plans.
use Rattle.std.proofs.Common.{ℕ, zero, suc, ◌+◌, ◌≤◌, ◌<◌, ◌≡◌, refl, List, [], ◌∷◌, arith, get_or, replicate, pos, neg_ℤ}
use Rattle.definitions.proofs.Cases.{below_one, below_two}
use Rattle.definitions.specs.declared.Order.TheVariants.{Constant, Sum}
use Rattle.definitions.specs.Arithmetic.{sum_to, sum_z, any_to, join_to}
use Rattle.definitions.specs.Book.{Book, book}
use Rattle.definitions.specs.Sheet.{sealed_sheet, amount_cell, flow_cell, price_cell, presence_cell, first_scratch, hundredths_cell}
use Rattle.definitions.specs.Examples.{book_one, book_two, book_five, book_seven}
use Rattle.definitions.specs.Clearing.{Clearing, Feasible, Best, NoGreater, equal, less, sold, bought, inflow, outflow, welfare, before, used}
use Rattle.definitions.specs.PoolPrice.{reaches_over, reaches, least_price, pool_price}
use Rattle.definitions.specs.Machine.{cell, run_of}
use Rattle.definitions.specs.Calls.{seal_refusal, bids_refusal, capacities_refusal, row_refusal, first_from}
use Rattle.definitions.specs.Plan.{Plan}
use Rattle.definitions.specs.Outcome.{Outcome, clearing_results, order_limit, plan_run, clear_sheet, clear_count, clear_welfare}
use Rattle.definitions.specs.RunningSum.{running_sum, sum_of_sales, sales_welfare, sum_with_purchases, end_figure, clear_sales_welfare}

-- a clearing of one pool from its amounts
abbrev amounts : List ℕ → Clearing
amounts xs = record { accepted = λ i. get_or xs i 0; flow = λ a b. 0 }

-- ---- example 1: the sale is accepted

six_feasible : Feasible book_one (amounts (6 ∷ 6 ∷ []))
unfolding book_one sold bought inflow outflow sum_to
six_feasible = record {
  amounts = below_two _ (omega arith) (omega arith);
  flows = λ a b l r. omega arith;
  balance = below_one _ refl;
}

one_trades : (c : Clearing) → Best book_one c → 0 < c.accepted 0
unfolding book_one used before
one_trades c best = go (best.greatest (amounts (6 ∷ 6 ∷ [])) six_feasible)
  where
    go : NoGreater book_one (used book_one (amounts (6 ∷ 6 ∷ [])).accepted) (used book_one c.accepted) → 0 < c.accepted 0
    go (equal h) = omega (arith, h 0 (omega arith))
    go (less zero l q h) = omega arith
    go (less (suc zero) l q h) = omega (arith, h 0 (omega arith) refl)
    go (less (suc (suc i)) l q h) = omega arith

-- ---- example 5: nothing is accepted

none_feasible : Feasible book_five (amounts [])
unfolding book_five sold bought inflow outflow sum_to
none_feasible = record {
  amounts = λ i l. omega arith;
  flows = λ a b l r. omega arith;
  balance = below_one _ refl;
}

five_rests : (c : Clearing) → Best book_five c → c.accepted 0 ≡ 0
unfolding book_five used before sold bought inflow outflow sum_to
five_rests c best = go (best.greatest (amounts []) none_feasible)
  where
    go : NoGreater book_five (used book_five (λ i. 0)) (used book_five c.accepted) → c.accepted 0 ≡ 0
    go (equal h) = omega (arith, h 0 (omega arith))
    go (less zero l q h) =
        omega (arith, h 1 (omega arith) refl, best.feasible.amounts 1 (omega arith), best.feasible.balance 0 (omega arith))
    go (less (suc zero) l q h) = omega arith
    go (less (suc (suc i)) l q h) = omega arith

-- ---- the shams

-- "A plan with no orders"
no_orders_lem : Outcome book_one (sealed_sheet book_one) (run_of [] (sealed_sheet book_one)) → ⊥
unfolding book_one run_of sealed_sheet
no_orders_lem h = omega (arith, one_trades _ h.best)

-- "or one that treats only the cheapest bid": the second bid in merit order is left at 0
only_the_first_bid : (s : List ℕ) → cell s (amount_cell 2 1 1) ≡ 0 → Outcome book_one (sealed_sheet book_one) s → ⊥
unfolding book_one sold bought inflow outflow sum_to
only_the_first_bid s e h = omega (arith, one_trades _ h.best, h.best.feasible.balance 0 (omega arith))

-- "A fixed clearing for every book": two books of equal counts with the same amounts
one_fixed_clearing : (s t : List ℕ) → Outcome book_one (sealed_sheet book_one) s → Outcome book_five (sealed_sheet book_five) t → cell s (amount_cell 2 1 0) ≡ cell t (amount_cell 2 1 0) → ⊥
unfolding book_one book_five
one_fixed_clearing s t h k e = omega (arith, one_trades _ h.best, five_rests _ k.best)

-- a scratch cell left at another number than 0
one_scratch_cell_left : (s : List ℕ) (c : ℕ) → first_scratch 2 1 ≤ c → 0 < cell s c → Outcome book_one (sealed_sheet book_one) s → ⊥
unfolding book_one
one_scratch_cell_left s c l some h = omega (arith, h.scratch c l)

-- ---- what else an outcome says

-- input cells are as sealed: the first, one of a negative number, the last
inputs_kept : (s : List ℕ) → Outcome book_two (sealed_sheet book_two) s → (cell s 0 ≡ 1) × (cell s 2 ≡ 2147483637) × (cell s 11 ≡ 0)
unfolding book_two sealed_sheet
inputs_kept s h = (h.inputs 0 (omega arith), h.inputs 2 (omega arith), h.inputs 11 (omega arith))

-- a book with no bid has no price: "all 0 if missing"
no_price : (s : List ℕ) → Outcome book_seven (sealed_sheet book_seven) s
    → (cell s (price_cell 0 2 1) ≡ 0) × (cell s (hundredths_cell 0 2 1) ≡ 0) × (cell s (presence_cell 0 2 1) ≡ 0)
unfolding book_seven pool_price least_price
no_price s h = (h.prices 1 (omega arith), h.hundredths 1 (omega arith), h.presences 1 (omega arith))

-- a pool has the lower of two prices, that of the sale, of which 4 are left, and that of the purchase
a_price : (s : List ℕ) → Outcome book_one (sealed_sheet book_one) s → cell s (amount_cell 2 1 0) ≡ 6 → cell s (amount_cell 2 1 1) ≡ 6
    → (cell s (price_cell 2 1 0) ≡ 20) × (cell s (presence_cell 2 1 0) ≡ 1)
unfolding book_one pool_price least_price any_to used reaches reaches_over
a_price s h e f = (rw (e, f) at (h.prices 0 (omega arith)), rw (e, f) at (h.presences 0 (omega arith)))

-- by the sheet's own flows: line 1 to 2 is full and line 2 to 1 carries nothing, so that pool 2 has its own price and not pool 1's
by_flows : (s : List ℕ) → Outcome book_two (sealed_sheet book_two) s → cell s (amount_cell 2 2 0) ≡ 3 → cell s (amount_cell 2 2 1) ≡ 3
    → cell s (flow_cell 2 2 0 1) ≡ 3 → cell s (flow_cell 2 2 1 0) ≡ 0
    → (cell s (price_cell 2 2 1) ≡ 30) × (cell s (presence_cell 2 2 1) ≡ 1)
unfolding book_two pool_price least_price any_to used reaches reaches_over
by_flows s h e f g k = (simp (e, f, g, k) at (h.prices 1 (omega arith)), simp (e, f, g, k) at (h.presences 1 (omega arith)))

-- a price below 0 stands in its cell as its residue: nothing is accepted, and the sale can be had
negative_price : (s : List ℕ) → Outcome book_five (sealed_sheet book_five) s → cell s (amount_cell 2 1 0) ≡ 0 → cell s (amount_cell 2 1 1) ≡ 0
    → (cell s (price_cell 2 1 0) ≡ 2147483637) × (cell s (presence_cell 2 1 0) ≡ 1)
unfolding book_five pool_price least_price any_to used reaches reaches_over
negative_price s h e f = (rw (e, f) at (h.prices 0 (omega arith)), rw (e, f) at (h.presences 0 (omega arith)))

-- a price of −2.75 stands as −3 and 25: nothing is accepted of a sale without a purchase
cheap : Book
cheap = book 1 1 (pos 1 ∷ neg_ℤ (pos 3) ∷ neg_ℤ (pos 5) ∷ pos 25 ∷ []) (pos 0 ∷ [])

parts_of_price : (s : List ℕ) → Outcome cheap (sealed_sheet cheap) s → cell s (amount_cell 1 1 0) ≡ 0
    → (cell s (price_cell 1 1 0) ≡ 2147483644) × (cell s (hundredths_cell 1 1 0) ≡ 25) × (cell s (presence_cell 1 1 0) ≡ 1)
unfolding cheap pool_price least_price any_to used reaches reaches_over
parts_of_price s h e =
    (rw e at (h.prices 0 (omega arith)), rw e at (h.hundredths 0 (omega arith)), rw e at (h.presences 0 (omega arith)))

-- what is opened of a clearing: amounts, flows by rows, price, hundredths and presence of each pool
results :
    clearing_results book_two (record { accepted = λ i. get_or (3 ∷ 4 ∷ []) i 0; flow = λ a b. get_or (5 ∷ 6 ∷ 0 ∷ 8 ∷ []) (a + a + b) 0 })
    ∷ clearing_results book_five (amounts (4 ∷ 4 ∷ []))
    ∷ clearing_results book_seven (amounts [])
    ∷ clearing_results cheap (amounts [])
    ∷ []
    ≡ (pos 3 ∷ pos 4 ∷ pos 5 ∷ pos 6 ∷ pos 0 ∷ pos 8 ∷ pos 20 ∷ pos 0 ∷ pos 1 ∷ pos 30 ∷ pos 0 ∷ pos 1 ∷ [])
    ∷ (pos 4 ∷ pos 4 ∷ pos 0 ∷ neg_ℤ (pos 20) ∷ pos 0 ∷ pos 1 ∷ [])
    ∷ (pos 0 ∷ pos 0 ∷ pos 0 ∷ pos 0 ∷ pos 0 ∷ pos 0 ∷ pos 0 ∷ pos 0 ∷ pos 0 ∷ pos 0 ∷ [])
    ∷ (pos 0 ∷ pos 0 ∷ neg_ℤ (pos 3) ∷ pos 25 ∷ pos 1 ∷ [])
    ∷ []
unfolding book_two book_five book_seven cheap clearing_results join_to pool_price least_price any_to used reaches reaches_over
results = refl

-- ---- clearing, by a plan of three orders that accepts 6 and 6 for example 1

three : Plan
three n m = Constant 9 6 ∷ Sum 10 9 15 ∷ Constant 15 0 ∷ []

cleared :
    clear_sheet three book_one (replicate 4096 9)
    ∷ clear_sheet three book_one (9 ∷ 9 ∷ [])
    ∷ []
    ≡ (1 ∷ 20 ∷ 2147483637 ∷ 0 ∷ 1 ∷ 30 ∷ 6 ∷ 0 ∷ 0 ∷ 6 ∷ 6 ∷ replicate 4085 0)
    ∷ (9 ∷ 9 ∷ [])
    ∷ []
unfolding three book_one clear_sheet plan_run run_of sealed_sheet seal_refusal bids_refusal capacities_refusal row_refusal first_from
cleared = refl

-- the same book, but for the second bid's pool, which is none
faulty : Book
faulty = book 2 1 (pos 1 ∷ pos 20 ∷ neg_ℤ (pos 10) ∷ pos 0 ∷ pos 2 ∷ pos 30 ∷ pos 6 ∷ pos 0 ∷ []) (pos 0 ∷ [])

counted : clear_count three book_one 4096 ∷ clear_count three book_one 4095 ∷ clear_count three faulty 4096 ∷ [] ≡ 3 ∷ 0 ∷ 0 ∷ []
unfolding three book_one faulty clear_count seal_refusal bids_refusal capacities_refusal row_refusal first_from
counted = refl

summed : clear_welfare three book_one 4096 ∷ clear_welfare three book_one 4095 ∷ clear_welfare three faulty 4096 ∷ [] ≡ pos 6000 ∷ pos 0 ∷ pos 0 ∷ []
unfolding three book_one faulty clear_welfare welfare sum_z plan_run run_of sealed_sheet seal_refusal bids_refusal capacities_refusal row_refusal first_from
summed = refl

sales_summed :
    clear_sales_welfare three book_one 4096
    ∷ clear_sales_welfare three book_one 4095
    ∷ clear_sales_welfare three faulty 4096
    ∷ []
    ≡ neg_ℤ (pos 12000) ∷ pos 0 ∷ pos 0 ∷ []
unfolding three book_one faulty clear_sales_welfare sales_welfare sum_of_sales end_figure sum_with_purchases running_sum plan_run run_of sealed_sheet seal_refusal bids_refusal capacities_refusal row_refusal first_from
sales_summed = refl

-- demand 3's limit, at the ends and at a middle
limits : order_limit 0 1 ∷ order_limit 8 2 ∷ order_limit 64 4 ∷ [] ≡ 10000 ∷ 256080 ∷ 40829200 ∷ []
limits = refl
