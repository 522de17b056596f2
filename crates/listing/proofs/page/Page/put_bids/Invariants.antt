-- Invariant: the page holds the lines of the first i bids.
use Rattle.definitions.specs.Arithmetic.{join_to}
use Rattle.listing.specs.Lines.{bid_at}
use Rattle.listing.specs.Page.{Wrote}
use Rattle.listing.proofs.page.Page.put_bids.Given as goal

abbrev pub invariant-loop-i : goal.invariant-loop-i
invariant-loop-i l = Wrote l.initial.self (join_to l.i (bid_at l.results.numbers.now)) l.self
