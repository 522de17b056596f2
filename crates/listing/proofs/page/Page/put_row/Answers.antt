-- `put_row` meets its contract: each turn writes one more line.
use Rattle.std.proofs.Common.{◌+◌, ap, ◌∙◌, w32}
use Rattle.definitions.specs.Settle.{flow_line}
use Rattle.laws.specs.SignedTests.{back}
use Rattle.listing.specs.Lines.{flow_at, row_lines, no_lines, line_wrote, all_lines}
use Rattle.listing.specs.Page.{same_text}
use Rattle.listing.proofs.page.Page.put_row.Goals as goal

pub loop-b-init : goal.loop-b-init
loop-b-init c = let r = c.args.results.now in no_lines c.args.self.now (flow_at r.counts.n r.counts.m c.args.a r.numbers.now)

pub loop-b-preserved : goal.loop-b-preserved
loop-b-preserved c =
    let r = c.args.results.now in
    let line = ap (flow_line (c.args.a + 1) (c.loop-b.b + 1)) (back w32 _ c.flow.type_inv ∙ c.flow.ensures) in
    line_wrote c.loop-b.b (flow_at r.counts.n r.counts.m c.args.a r.numbers.now) c.loop-b.invariant (same_text line c.put_flow.ensures)

pub returns : goal.returns
unfolding row_lines
returns c =
    let r = c.args.results.now in
    all_lines c.loop-b.b r.counts.m (flow_at r.counts.n r.counts.m c.args.a r.numbers.now) c.loop-b.auto.b-end c.loop-b-test.false c.loop-b.invariant
