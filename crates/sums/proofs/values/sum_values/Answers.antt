-- `sum_values` meets its contract: the two running sums are the definitions', and the second ends at formula (1).
use Rattle.std.proofs.Common.{ℕ, ◌≡◌, refl, sym, ◌∙◌, ℤ, length, get_or, w64}
use Rattle.definitions.specs.Book.{Book}
use Rattle.definitions.specs.RunningSum.{sales_welfare, end_figure}
use Rattle.laws.specs.SignedTests.{back}
use Rattle.sums.specs.BidsOnly.{bids_only}
use Rattle.sums.specs.Sides.{sum_of_side, sales_begin, purchases_begin}
use Rattle.sums.specs.SummedWelfare.{OverBids, summed, summed_is, welfare_over_bids, sales_over_bids}
use Rattle.sums.specs.Welfare.{end_figure_is}
use Rattle.sums.proofs.values.sum_values.Goals as goal
use Rattle.sums.proofs.values.sum_values.Goals.{After-add_side-whole}

-- what is lent, as a book and as amounts
abbrev lent_bids : After-add_side-whole → Book
lent_bids c = bids_only (length c.args.accepted.now) 0 c.args.table.now

abbrev lent_amounts : After-add_side-whole → ℕ → ℕ
lent_amounts c i = get_or c.args.accepted.now i 0

-- it can be summed
is_summed : (c : After-add_side-whole) → {sum : Book → (ℕ → ℕ) → ℤ} → OverBids sum → sum (lent_bids c) (lent_amounts c) ≡ summed sum c.args.table.now c.args.accepted.now
is_summed c over = sym (summed_is over (lent_bids c) c.requires.few c.requires.table c.args.accepted.now (lent_amounts c) refl (λ i l. refl) c.requires.small)

pub add_side-sales-requires-clause-begun : goal.add_side-sales-requires-clause-begun
add_side-sales-requires-clause-begun c = sym (sales_begin c.args.table.now c.args.accepted.now)

pub add_side-whole-requires-clause-begun : goal.add_side-whole-requires-clause-begun
add_side-whole-requires-clause-begun c =
    back w64 _ c.add_side-sales.type_inv ∙ c.add_side-sales.ensures.sum ∙ sym (purchases_begin c.args.table.now c.args.accepted.now)

pub returns-clause-sales : goal.returns-clause-sales
unfolding sum_of_side sales_welfare
returns-clause-sales c = back w64 _ c.add_side-sales.type_inv ∙ c.add_side-sales.ensures.sum ∙ is_summed c sales_over_bids

pub returns-clause-whole : goal.returns-clause-whole
unfolding sum_of_side end_figure
returns-clause-whole c =
    back w64 _ c.add_side-whole.type_inv
    ∙ c.add_side-whole.ensures.sum
    ∙ end_figure_is (lent_bids c) (lent_amounts c)
    ∙ is_summed c welfare_over_bids
