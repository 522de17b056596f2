-- `put_flows` meets its contract: each turn writes one more row.
use Rattle.definitions.specs.Settle.{flow_lines}
use Rattle.listing.specs.Lines.{row_lines, no_lines, line_wrote, all_lines}
use Rattle.listing.proofs.page.Page.put_flows.Goals as goal

pub loop-a-init : goal.loop-a-init
loop-a-init c = let r = c.args.results.now in no_lines c.args.self.now (λ a. row_lines r.counts.n r.counts.m a r.numbers.now)

pub loop-a-preserved : goal.loop-a-preserved
loop-a-preserved c =
    let r = c.args.results.now in
    line_wrote c.loop-a.a (λ a. row_lines r.counts.n r.counts.m a r.numbers.now) c.loop-a.invariant c.put_row.ensures

pub returns : goal.returns
unfolding flow_lines row_lines
returns c =
    let r = c.args.results.now in
    all_lines c.loop-a.a r.counts.m (λ a. row_lines r.counts.n r.counts.m a r.numbers.now) c.loop-a.auto.a-end c.loop-a-test.false c.loop-a.invariant
