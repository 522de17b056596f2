-- Invariant: the page holds the lines of the row's first b flows.
use Rattle.definitions.specs.Arithmetic.{join_to}
use Rattle.listing.specs.Lines.{flow_at}
use Rattle.listing.specs.Page.{Wrote}
use Rattle.listing.proofs.page.Page.put_row.Given as goal

abbrev pub invariant-loop-b : goal.invariant-loop-b
invariant-loop-b l = Wrote l.initial.self (join_to l.b (flow_at l.results.counts.n l.results.counts.m l.a l.results.numbers.now)) l.self
