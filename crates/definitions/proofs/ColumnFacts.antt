-- The renumbering to columns, a plan by columns and sealing by columns, by computation.
use Rattle.std.proofs.Common.{ℕ, ◌+◌, ◌≡◌, refl, arith, List, [], ◌∷◌, map, take, length, replicate, pos, neg_ℤ}
use Rattle.definitions.specs.declared.Order.{Order}
use Rattle.definitions.specs.declared.Order.TheVariants.{Constant, Sum, Difference, Product, Less, Equal}
use Rattle.definitions.specs.Arithmetic.{join_to}
use Rattle.definitions.specs.Book.{Book, book}
use Rattle.definitions.specs.Machine.{cell}
use Rattle.definitions.specs.Answers.{refuse}
use Rattle.definitions.specs.Calls.{seal_refusal, bids_refusal, capacities_refusal, row_refusal, first_from}
use Rattle.definitions.specs.Plan.{order, ended, refused, ask_refusal, asked}
use Rattle.definitions.specs.Columns.{column_cell, renumbered, column_plan, column_sealed_sheet, seal_columns_sheet, SameUnder}
use Rattle.definitions.specs.Outcome.{Outcome}

-- two bids' cells, those behind them, and the sheet's last; one bid's; no bid's
cells : map (column_cell 2) (0 ∷ 1 ∷ 2 ∷ 3 ∷ 4 ∷ 5 ∷ 6 ∷ 7 ∷ 8 ∷ 9 ∷ 4095 ∷ []) ∷ map (column_cell 1) (0 ∷ 1 ∷ 2 ∷ 3 ∷ 4 ∷ []) ∷ map (column_cell 0) (0 ∷ 1 ∷ []) ∷ []
    ≡ (0 ∷ 2 ∷ 6 ∷ 4 ∷ 1 ∷ 3 ∷ 7 ∷ 5 ∷ 8 ∷ 9 ∷ 4095 ∷ []) ∷ (0 ∷ 1 ∷ 3 ∷ 2 ∷ 4 ∷ []) ∷ (0 ∷ 1 ∷ []) ∷ []
unfolding column_cell
cells = refl

-- an order of each kind, by numbers of its own for each cell
orders : map (renumbered (column_cell 2)) (Constant 1 2 ∷ Sum 1 2 3 ∷ Difference 2 3 4 ∷ Product 3 4 5 ∷ Less 4 5 6 ∷ Equal 5 6 7 ∷ [])
    ≡ Constant 2 2 ∷ Sum 2 6 4 ∷ Difference 6 4 1 ∷ Product 4 1 3 ∷ Less 1 3 7 ∷ Equal 3 7 5 ∷ []
unfolding column_cell
orders = refl

-- a plan for two bids, and one pool or more
one_order : (n m : ℕ) → List Order
one_order n m = Sum (n + 7) 2 m ∷ []

-- it is renumbered for the bids' number, asked as the row plan is and refused as it is
answers : asked (column_plan one_order) 2 1 0 ∷ asked (column_plan one_order) 2 3 0 ∷ asked (column_plan one_order) 2 3 1 ∷ asked (column_plan one_order) 2 3 2
    ∷ asked (column_plan one_order) 65 0 2 ∷ []
    ≡ order (Sum 9 6 2) 1 ∷ order (Sum 9 6 4) 1 ∷ ended ∷ refused (refuse 13 0) ∷ refused (refuse 1 0) ∷ []
unfolding one_order column_plan column_cell asked ask_refusal
answers = refl

-- what the one sheet holds in a bid's price the other does in the column of prices
same : (s t : List ℕ) → SameUnder (column_cell 2) s t → (cell t 2 ≡ cell s 1) × (cell t 3 ≡ cell s 5) × (cell t 4095 ≡ cell s 4095)
unfolding column_cell
same s t h = (h 1, h 5, h 4095)

-- ---- sealing

-- two bids that differ in every number, and the capacities of three pools
two_bids : Book
two_bids =
    book 2 3 (pos 1 ∷ pos 20 ∷ neg_ℤ (pos 10) ∷ pos 25 ∷ pos 2 ∷ neg_ℤ (pos 3) ∷ pos 6 ∷ pos 50 ∷ [])
    (pos 0 ∷ pos 3 ∷ pos 5 ∷ pos 7 ∷ pos 0 ∷ pos 9 ∷ pos 11 ∷ pos 13 ∷ pos 0 ∷ [])

sealed : take 19 (column_sealed_sheet two_bids)
    ≡ 1 ∷ 2 ∷ 20 ∷ 2147483644 ∷ 25 ∷ 50 ∷ 2147483637 ∷ 6 ∷ 0 ∷ 3 ∷ 5 ∷ 7 ∷ 0 ∷ 9 ∷ 11 ∷ 13 ∷ 0 ∷ 0 ∷ 0 ∷ []
unfolding two_bids column_sealed_sheet join_to
sealed = refl

whole : length (column_sealed_sheet two_bids) ∷ cell (column_sealed_sheet two_bids) 4095 ∷ [] ≡ 4096 ∷ 0 ∷ []
unfolding two_bids column_sealed_sheet join_to
whole = refl

-- an accepted book is sealed, one of too many pools leaves the sheet as it was, and so does a sheet of another length
given : take 4 (seal_columns_sheet two_bids (replicate 4096 9)) ∷ seal_columns_sheet (book 0 5 [] []) (7 ∷ []) ∷ seal_columns_sheet two_bids (7 ∷ 7 ∷ []) ∷ []
    ≡ (1 ∷ 2 ∷ 20 ∷ 2147483644 ∷ []) ∷ (7 ∷ []) ∷ (7 ∷ 7 ∷ []) ∷ []
unfolding two_bids seal_columns_sheet column_sealed_sheet join_to seal_refusal bids_refusal capacities_refusal row_refusal first_from
given = refl

-- input cells stay as sealed by columns
inputs_kept : (s : List ℕ) → Outcome two_bids (column_sealed_sheet two_bids) s → (cell s 2 ≡ 20) × (cell s 6 ≡ 2147483637) × (cell s 15 ≡ 13) × (cell s 16 ≡ 0)
unfolding two_bids column_sealed_sheet join_to
inputs_kept s h = (h.inputs 2 (omega arith), h.inputs 6 (omega arith), h.inputs 15 (omega arith), h.inputs 16 (omega arith))
