-- `put_prices` meets its contract: each turn writes one more line.
use Rattle.std.proofs.Common.{◌+◌, ap, ◌∙◌}
use Rattle.definitions.specs.Settle.{price_lines}
use Rattle.listing.specs.Lines.{price_at, no_lines, line_wrote, all_lines}
use Rattle.listing.specs.Page.{same_text}
use Rattle.listing.specs.Prices.{pool_line, price_shown}
use Rattle.listing.proofs.page.Page.put_prices.Goals as goal

pub loop-p-init : goal.loop-p-init
loop-p-init c = let r = c.args.results.now in no_lines c.args.self.now (price_at r.counts.n r.counts.m r.numbers.now)

pub loop-p-preserved : goal.loop-p-preserved
loop-p-preserved c =
    let r = c.args.results.now in
    let line = ap (pool_line (c.loop-p.p + 1)) c.price.ensures ∙ price_shown (c.loop-p.p + 1) _ _ _ in
    line_wrote c.loop-p.p (price_at r.counts.n r.counts.m r.numbers.now) c.loop-p.invariant (same_text line c.put_price.ensures)

pub returns : goal.returns
unfolding price_lines
returns c =
    let r = c.args.results.now in
    all_lines c.loop-p.p r.counts.m (price_at r.counts.n r.counts.m r.numbers.now) c.loop-p.auto.p-end c.loop-p-test.false c.loop-p.invariant
