-- Invariant: the page holds the lines of the first a rows.
use Rattle.definitions.specs.Arithmetic.{join_to}
use Rattle.listing.specs.Lines.{row_lines}
use Rattle.listing.specs.Page.{Wrote}
use Rattle.listing.proofs.page.Page.put_flows.Given as goal

abbrev pub invariant-loop-a : goal.invariant-loop-a
invariant-loop-a l = Wrote l.initial.self (join_to l.a (λ a. row_lines l.results.counts.n l.results.counts.m a l.results.numbers.now)) l.self
