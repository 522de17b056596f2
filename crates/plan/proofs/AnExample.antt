-- Runs of the plan by computation, order by order: what they leave on the whole sheet of four small books (`example_run`, `prices_run`, `parted_run`, `no_price_run`).
use Rattle.std.specs.Prelude.{◌≡◌, refl, List, [], ◌∷◌, replicate, ℕ, ◌-◌, pos, neg_ℤ}
use Rattle.definitions.specs.Limits.{cell_count}
use Rattle.definitions.specs.Arithmetic.{sum_to}
use Rattle.definitions.specs.Book.{Book, book}
use Rattle.definitions.specs.Sheet.{sealed_sheet, first_scratch}
use Rattle.definitions.specs.Machine.{run_of}
use Rattle.plan.specs.Subsets.{member, lowest, others}
use Rattle.plan.specs.Table.{scratch_count, work, table}
use Rattle.plan.specs.Numbered.{plan}

-- three pools, lines 2 to 1, 3 to 1 and 3 to 2 carry 5, 2 and 5; (1,−10,4), (3,−10,−5), (2,−10,−5): of two equal sales the first is accepted, and half
-- of it goes round by pool 2
abbrev pub three_pools : Book
three_pools =
    book 3 3
    (pos 1 ∷ neg_ℤ (pos 10) ∷ pos 4 ∷ pos 0 ∷ pos 3 ∷ neg_ℤ (pos 10) ∷ neg_ℤ (pos 5) ∷ pos 0 ∷ pos 2 ∷ neg_ℤ (pos 10) ∷ neg_ℤ (pos 5) ∷ pos 0 ∷ [])
    (pos 0 ∷ pos 0 ∷ pos 0 ∷ pos 5 ∷ pos 0 ∷ pos 0 ∷ pos 2 ∷ pos 5 ∷ pos 0 ∷ [])

-- bids and capacities as sealed, accepted amounts, flows by rows, each pool's price, hundredths and presence, and 0 in all scratch
abbrev pub three_pools_cleared : List ℕ
three_pools_cleared =
    1 ∷ 2147483637 ∷ 4 ∷ 0 ∷ 3 ∷ 2147483637 ∷ 2147483642 ∷ 0 ∷ 2 ∷ 2147483637 ∷ 2147483642 ∷ 0 ∷ 0 ∷ 0 ∷ 0 ∷ 5 ∷ 0 ∷ 0 ∷ 2 ∷ 5 ∷ 0
    ∷ 4 ∷ 4 ∷ 0 ∷ 0 ∷ 0 ∷ 0 ∷ 2 ∷ 0 ∷ 0 ∷ 2 ∷ 2 ∷ 0 ∷ 2147483637 ∷ 0 ∷ 1 ∷ 2147483637 ∷ 0 ∷ 1 ∷ 2147483637 ∷ 0 ∷ 1
    ∷ replicate (cell_count - first_scratch 3 3) 0

pub example_run : run_of (plan 3 3) (sealed_sheet three_pools) ≡ three_pools_cleared
unfolding sum_to sealed_sheet run_of member lowest others scratch_count work table plan
example_run = refl

-- three pools, line 1 to 2 carries 3, the others 0; a sale at 10.50 of 3 in pool 1, a purchase at 30.25 of 3 in pool 2, a sale at −4.25 of 4 in pool 3: the
-- first sale is used up and the line is full, so that pool 1 has the price of the purchase from the other end of the line, and nobody that of the sale in
-- pool 3 but this pool
full_line : Book
full_line =
    book 3 3 (pos 1 ∷ pos 10 ∷ neg_ℤ (pos 3) ∷ pos 50 ∷ pos 2 ∷ pos 30 ∷ pos 3 ∷ pos 25 ∷ pos 3 ∷ neg_ℤ (pos 5) ∷ neg_ℤ (pos 4) ∷ pos 75 ∷ [])
    (pos 0 ∷ pos 3 ∷ pos 0 ∷ pos 0 ∷ pos 0 ∷ pos 0 ∷ pos 0 ∷ pos 0 ∷ pos 0 ∷ [])

prices_run :
    run_of (plan 3 3) (sealed_sheet full_line)
    ≡ 1 ∷ 10 ∷ 2147483644 ∷ 50 ∷ 2 ∷ 30 ∷ 3 ∷ 25 ∷ 3 ∷ 2147483642 ∷ 2147483643 ∷ 75 ∷ 0 ∷ 3 ∷ 0 ∷ 0 ∷ 0 ∷ 0 ∷ 0 ∷ 0 ∷ 0
    ∷ 3 ∷ 3 ∷ 0 ∷ 0 ∷ 3 ∷ 0 ∷ 0 ∷ 0 ∷ 0 ∷ 0 ∷ 0 ∷ 0 ∷ 30 ∷ 25 ∷ 1 ∷ 30 ∷ 25 ∷ 1 ∷ 2147483642 ∷ 75 ∷ 1 ∷ replicate (cell_count - first_scratch 3 3) 0
unfolding full_line sum_to sealed_sheet run_of member lowest others scratch_count work table plan
prices_run = refl

-- two pools without lines: purchases at 25.99 and 26.00 share a sale at 0.00, and a sale at 30,000.00 stands alone. The dearer purchase is served in full,
-- so that the price is the other's, 25.99
parted : Book
parted =
    book 4 2
    (pos 1 ∷ pos 0 ∷ neg_ℤ (pos 6) ∷ pos 0 ∷ pos 1 ∷ pos 25 ∷ pos 4 ∷ pos 99
    ∷ pos 1 ∷ pos 26 ∷ pos 4 ∷ pos 0 ∷ pos 2 ∷ pos 30000 ∷ neg_ℤ (pos 1) ∷ pos 0 ∷ [])
    (pos 0 ∷ pos 0 ∷ pos 0 ∷ pos 0 ∷ [])

parted_run :
    run_of (plan 4 2) (sealed_sheet parted)
    ≡ 1 ∷ 0 ∷ 2147483641 ∷ 0 ∷ 1 ∷ 25 ∷ 4 ∷ 99 ∷ 1 ∷ 26 ∷ 4 ∷ 0 ∷ 2 ∷ 30000 ∷ 2147483646 ∷ 0 ∷ 0 ∷ 0 ∷ 0 ∷ 0
    ∷ 6 ∷ 2 ∷ 4 ∷ 0 ∷ 0 ∷ 0 ∷ 0 ∷ 0 ∷ 25 ∷ 99 ∷ 1 ∷ 30000 ∷ 0 ∷ 1 ∷ replicate (cell_count - first_scratch 4 2) 0
unfolding parted sum_to sealed_sheet run_of member lowest others scratch_count work table plan
parted_run = refl

-- one pool and a withdrawn bid at 5.40: no price, all three cells 0
no_price_run : run_of (plan 1 1) (sealed_sheet (book 1 1 (pos 1 ∷ pos 5 ∷ pos 0 ∷ pos 40 ∷ []) (pos 0 ∷ []))) ≡ 1 ∷ 5 ∷ 0 ∷ 40 ∷ 0 ∷ replicate (cell_count - 5) 0
unfolding sum_to sealed_sheet run_of member lowest others scratch_count work table plan
no_price_run = refl
