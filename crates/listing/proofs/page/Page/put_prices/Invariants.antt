-- Invariant: the page holds the lines of the first p pools.
use Rattle.definitions.specs.Arithmetic.{join_to}
use Rattle.listing.specs.Lines.{price_at}
use Rattle.listing.specs.Page.{Wrote}
use Rattle.listing.proofs.page.Page.put_prices.Given as goal

abbrev pub invariant-loop-p : goal.invariant-loop-p
invariant-loop-p l = Wrote l.initial.self (join_to l.p (price_at l.results.counts.n l.results.counts.m l.results.numbers.now)) l.self
