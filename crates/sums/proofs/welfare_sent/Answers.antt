-- `welfare_sent` meets its contract: there is room for the sizes of as many amounts as a book has bids, and more of them are not summed.
use Rattle.std.proofs.Common.{arith, map, nat_abs, length}
use Rattle.std.proofs.lemmas.List.{length-map}
use borrow.Author.Tests.{lt-leb}
use Rattle.definitions.specs.Limits.{bid_limit}
use Rattle.sums.specs.SummedWelfare.{amounts_fit, summed}
use Rattle.sums.proofs.welfare_sent.Goals as goal

pub returns-then-count-gt-BIDS : goal.returns-then-count-gt-BIDS
unfolding summed amounts_fit
returns-then-count-gt-BIDS c =
    let sizes = map nat_abs c.args.amounts.now in
    simp (lt-leb (length sizes) bid_limit (omega (arith, length-map c.args.amounts.now nat_abs, c.if-count-gt-BIDS.true)))
