-- `put_bids` meets its contract: each turn writes one more line.
use Rattle.std.proofs.Common.{◌+◌, ap, ◌∙◌, w32}
use Rattle.definitions.specs.Settle.{bid_line, bid_lines}
use Rattle.laws.specs.SignedTests.{back}
use Rattle.listing.specs.Lines.{bid_at, no_lines, line_wrote, all_lines}
use Rattle.listing.specs.Page.{same_text}
use Rattle.listing.proofs.page.Page.put_bids.Goals as goal

pub loop-i-init : goal.loop-i-init
loop-i-init c = no_lines c.args.self.now (bid_at c.args.results.now.numbers.now)

pub loop-i-preserved : goal.loop-i-preserved
loop-i-preserved c = line_wrote c.loop-i.i (bid_at c.args.results.now.numbers.now) c.loop-i.invariant (same_text (ap (bid_line (c.loop-i.i + 1)) (back w32 _ c.amount.type_inv ∙ c.amount.ensures)) c.put_bid.ensures)

pub returns : goal.returns
unfolding bid_lines
returns c = all_lines c.loop-i.i c.args.results.now.counts.n (bid_at c.args.results.now.numbers.now) c.loop-i.auto.i-end c.loop-i-test.false c.loop-i.invariant
