-- What is known of a book that is not refused: its bids are whole rows, and its tables have room in the sheet, which has 4,096 cells.
use Rattle.std.proofs.Common.{ℕ, ◌+◌, ◌*◌, ◌≤◌, ◌≡◌, sym, length, arith, mul-le-mul_right}
use Rattle.definitions.specs.Limits.{pool_limit, cell_count, bid_numbers}
use Rattle.definitions.specs.Answers.{none}
use Rattle.definitions.specs.Book.{Book}
use Rattle.definitions.specs.Calls.{seal_refusal}
use Rattle.laws.specs.Sizes.{accepted_sizes}

module _ (B : Book) (cells : ℕ) (passed : none ≡ seal_refusal B cells) where
  pub whole_sheet : cells ≡ cell_count
  whole_sheet = (accepted_sizes B cells (sym passed)).lengths.sheet

  pub tables_fit : length B.bids + length B.capacities ≤ cells
  tables_fit =
      let h = accepted_sizes B cells (sym passed) in
      omega (arith, mul-le-mul_right {n = pool_limit} B.m h.counts.pools.most)

  pub whole_rows : length B.bids ≡ bid_numbers * B.n
  whole_rows = (accepted_sizes B cells (sym passed)).lengths.bid_table

pub ruleset sealable = (whole_sheet, tables_fit, whole_rows)
