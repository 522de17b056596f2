-- `column_cell` meets its contract: a cell of the bids moves, every other stays.
use Rattle.std.proofs.Common.{sym, ap, ◌∙◌, ℕ, ◌+◌, ◌*◌, ◌/◌, arith}
use Rattle.definitions.specs.Limits.{bid_numbers}
use Rattle.columns.specs.Cells.{column_moved, column_kept}
use Rattle.columns.proofs.column_cell.Goals as goal

pub returns-then-bid_numbers-c : goal.returns-then-bid_numbers-c
returns-then-bid_numbers-c c = sym (column_kept c.args.counts.n c.args.c (omega (arith, c.bid_numbers.ensures, c.if-bid_numbers-c.true)))

pub returns : goal.returns
returns c =
    ap (λ (column : ℕ). column * c.args.counts.n + c.args.c / bid_numbers) c.column_of.ensures
    ∙ sym (column_moved c.args.counts.n c.args.c (omega (arith, c.bid_numbers.ensures, c.if-bid_numbers-c.false)))
