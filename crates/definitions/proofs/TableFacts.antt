-- The edges of the limits, the order of refusals and their places, and residues, by computation.
use Rattle.std.proofs.Common.{ℕ, ◌≡◌, refl, List, [], ◌∷◌, length, replicate, ℤ, pos, neg_ℤ}
use Rattle.definitions.specs.Limits.{cell_count}
use Rattle.definitions.specs.Arithmetic.{reading, residue}
use Rattle.definitions.specs.Book.{book}
use Rattle.definitions.specs.Examples.{book_two}
use Rattle.definitions.specs.Sheet.{sealed_sheet, amount_cell, flow_cell, price_cell, hundredths_cell, presence_cell, first_scratch}
use Rattle.definitions.specs.Answers.{Refusal, none, refuse}
use Rattle.definitions.specs.Calls.{counts_refusal, bid_refusal, seal_refusal, bids_refusal, capacities_refusal, row_refusal, first_from, cells_refusal, open_refusal, opened_results, seal_sheet, open_slice}

-- the ends that document 01's 'Edges' leave out, the order of 4, 5 and 6 and of 1 and 2, and the pools of a bid
edges :
    bid_refusal 4 (pos 4) (neg_ℤ (pos 30000)) (pos 65535) (pos 0)
    ∷ bid_refusal 4 (pos 1) (neg_ℤ (pos 30001)) (pos 65536) (pos 0)
    ∷ bid_refusal 4 (pos 1) (pos 0) (pos 65536) (pos 0)
    ∷ bid_refusal 4 (pos 5) (pos 30001) (pos 0) (pos 0)
    ∷ bid_refusal 4 (pos 0) (pos 0) (pos 0) (pos 0)
    ∷ bid_refusal 0 (pos 0) (pos 0) (pos 0) (pos 0)
    ∷ bid_refusal 5 (pos 5) (pos 0) (pos 0) (pos 0)
    ∷ counts_refusal 64 4
    ∷ counts_refusal 65 0
    ∷ counts_refusal 0 0
    ∷ counts_refusal 0 5
    ∷ []
    ≡ none ∷ refuse 5 0 ∷ refuse 6 0 ∷ refuse 4 0 ∷ refuse 4 0 ∷ refuse 2 0 ∷ refuse 2 0 ∷ none ∷ refuse 1 0 ∷ refuse 2 0 ∷ refuse 2 0 ∷ []
edges = refl

-- the hundredths: both ends, beyond them at any price; with the price above 30,000.00 or not; below −30,000.00 only by the price's own limit; before the
-- quantity, after the pool
hundredths_edges :
    bid_refusal 4 (pos 1) (pos 5) (pos 7) (pos 99)
    ∷ bid_refusal 4 (pos 1) (pos 5) (pos 7) (pos 100)
    ∷ bid_refusal 4 (pos 1) (pos 5) (pos 7) (neg_ℤ (pos 1))
    ∷ bid_refusal 4 (pos 1) (pos 30000) (pos 7) (pos 0)
    ∷ bid_refusal 4 (pos 1) (pos 30000) (pos 7) (pos 1)
    ∷ bid_refusal 4 (pos 1) (pos 29999) (pos 7) (pos 99)
    ∷ bid_refusal 4 (pos 1) (neg_ℤ (pos 30000)) (pos 7) (pos 99)
    ∷ bid_refusal 4 (pos 1) (neg_ℤ (pos 30001)) (pos 7) (pos 99)
    ∷ bid_refusal 4 (pos 1) (pos 30001) (pos 7) (neg_ℤ (pos 100))
    ∷ bid_refusal 4 (pos 1) (pos 0) (pos 65536) (pos 100)
    ∷ bid_refusal 4 (pos 0) (pos 0) (pos 0) (pos 100)
    ∷ []
    ≡ none ∷ refuse 5 0 ∷ refuse 5 0 ∷ none ∷ refuse 5 0 ∷ none ∷ none ∷ refuse 5 0 ∷ refuse 5 0 ∷ refuse 5 0 ∷ refuse 4 0 ∷ []
hundredths_edges = refl

-- what sealing says of n, m, a bid table, a capacity table and a sheet of 4,096 cells
sealing : (n m : ℕ) → List ℤ → List ℤ → Refusal
sealing n m bids capacities = seal_refusal (book n m bids capacities) cell_count

-- capacities: both ends, a diagonal entry, the first bad one by rows; a bad bid before a bad capacity; lengths before both
tables :
    sealing 0 2 [] (pos 0 ∷ pos 1000000 ∷ pos 0 ∷ pos 0 ∷ [])
    ∷ sealing 0 2 [] (pos 0 ∷ pos 1000001 ∷ pos 0 ∷ pos 0 ∷ [])
    ∷ sealing 0 2 [] (pos 0 ∷ pos 0 ∷ neg_ℤ (pos 1) ∷ pos 3 ∷ [])
    ∷ sealing 0 2 [] (pos 0 ∷ pos 0 ∷ pos 0 ∷ pos 3 ∷ [])
    ∷ sealing 1 2 (pos 1 ∷ pos 0 ∷ pos 7 ∷ pos 0 ∷ []) (pos 5 ∷ pos 0 ∷ pos 0 ∷ pos 0 ∷ [])
    ∷ sealing 2 1 (pos 1 ∷ pos 0 ∷ pos 7 ∷ pos 0 ∷ pos 2 ∷ pos 30001 ∷ pos 7 ∷ pos 0 ∷ []) (pos 5 ∷ [])
    ∷ sealing 2 1 (pos 1 ∷ pos 0 ∷ pos 7 ∷ pos 0 ∷ pos 2 ∷ pos 30001 ∷ pos 7 ∷ []) (pos 5 ∷ [])
    ∷ sealing 2 1 (pos 1 ∷ pos 0 ∷ pos 7 ∷ pos 0 ∷ pos 1 ∷ pos 30000 ∷ pos 7 ∷ pos 1 ∷ []) (pos 5 ∷ [])
    ∷ sealing 2 1 (pos 1 ∷ pos 0 ∷ pos 7 ∷ pos 1 ∷ pos 30000 ∷ pos 7 ∷ []) (pos 0 ∷ [])
    ∷ sealing 0 1 [] []
    ∷ seal_refusal (book 0 1 [] (pos 0 ∷ [])) 4095
    ∷ []
    ≡ none ∷ refuse 7 2 ∷ refuse 7 3 ∷ refuse 8 4 ∷ refuse 8 1 ∷ refuse 4 2 ∷ refuse 3 0 ∷ refuse 5 2 ∷ refuse 3 0 ∷ refuse 3 0 ∷ refuse 3 0 ∷ []
unfolding sealing seal_refusal bids_refusal capacities_refusal row_refusal first_from
tables = refl

-- residues and readings at both ends of the sign
signs : reading 1073741823 ∷ reading 1073741824 ∷ reading 2147483646 ∷ reading 0 ∷ reading (residue (neg_ℤ (pos 30000))) ∷ []
    ≡ pos 1073741823 ∷ neg_ℤ (pos 1073741823) ∷ neg_ℤ (pos 1) ∷ pos 0 ∷ neg_ℤ (pos 30000) ∷ []
signs = refl

-- 15 is the first cell of p or more; it comes after 3
cells :
    cells_refusal (0 ∷ 2147483646 ∷ 2147483647 ∷ 2147483648 ∷ [])
    ∷ open_refusal 0 1 (2147483647 ∷ []) 4
    ∷ open_refusal 0 1 (2147483647 ∷ replicate 4095 0) 3
    ∷ open_refusal 0 1 (2147483647 ∷ replicate 4095 0) 4
    ∷ []
    ≡ refuse 15 2 ∷ refuse 3 0 ∷ refuse 3 0 ∷ refuse 15 0 ∷ []
unfolding cells_refusal open_refusal first_from
cells = refl

-- example 2 sealed, whatever the sheet held: its input cells, then 0; a sheet of another length is kept. And where its results stand
sealed : seal_sheet book_two (replicate 4096 9) ∷ seal_sheet book_two (9 ∷ 9 ∷ []) ∷ []
    ≡ (1 ∷ 20 ∷ 2147483637 ∷ 0 ∷ 2 ∷ 30 ∷ 6 ∷ 0 ∷ 0 ∷ 3 ∷ 0 ∷ 0 ∷ replicate 4084 0) ∷ (9 ∷ 9 ∷ []) ∷ []
unfolding book_two seal_sheet seal_refusal bids_refusal capacities_refusal row_refusal first_from sealed_sheet
sealed = refl

places : amount_cell 2 2 0 ∷ flow_cell 2 2 0 1 ∷ flow_cell 2 2 1 0 ∷ price_cell 2 2 0 ∷ hundredths_cell 2 2 1 ∷ presence_cell 2 2 1 ∷ first_scratch 2 2 ∷ []
    ≡ 12 ∷ 15 ∷ 16 ∷ 18 ∷ 22 ∷ 23 ∷ 24 ∷ []
places = refl

-- opened: one bid and one pool from cell 5, a negative price; a refusal keeps the slice
opened : opened_results 1 1 (7 ∷ 7 ∷ 7 ∷ 7 ∷ 7 ∷ 5 ∷ 0 ∷ 2147483646 ∷ 50 ∷ 1 ∷ 9 ∷ []) ≡ pos 5 ∷ pos 0 ∷ neg_ℤ (pos 1) ∷ pos 50 ∷ pos 1 ∷ []
unfolding opened_results
opened = refl

opened_or_kept : (s : List ℕ) → length s ≡ cell_count → cells_refusal s ≡ none
    → open_slice 1 1 s (replicate 5 (pos 8)) ∷ open_slice 1 1 s (replicate 4 (pos 8)) ∷ [] ≡ opened_results 1 1 s ∷ replicate 4 (pos 8) ∷ []
unfolding open_slice open_refusal
opened_or_kept s cells residues = rw (cells, residues) refl
