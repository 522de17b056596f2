-- `is_balanced` meets its contract: each turn tests one pool, whose sums are the definition's, since the tables fit.
use Rattle.std.proofs.Common.{◌+◌, ◌≡◌, sym, ap₂, ◌∙◌, true, eqb, length, eq-eqb, ne_eqb}
use Rattle.definitions.specs.Book.{book_of}
use Rattle.definitions.specs.Checks.{balanced_at}
use Rattle.laws.specs.All.{all_to_begins, all_to_turn, all_to_fails}
use Rattle.laws.specs.Tests.{on_true}
use Rattle.sums.specs.Pools.{summable, fits_summable}
use Rattle.feasible.specs.Tests.{pool_balanced, tables_fit}
use Rattle.feasible.proofs.is_balanced.Goals as goal
use Rattle.feasible.proofs.is_balanced.Goals.{After-pool_sums-sums}

pub loop-p-init : goal.loop-p-init
loop-p-init c = all_to_begins _

-- this turn's test
found : (c : After-pool_sums-sums) →
    let B = c.args.book.now in
    let sums = c.pool_sums-sums.result in
    eqb (sums.sold + sums.inflow) (sums.bought + sums.outflow) ≡ pool_balanced B.m B.bids.now c.args.sent.now.amounts.now c.args.sent.now.flows.now c.loop-p.p
unfolding balanced_at
found c =
    let B = c.args.book.now in
    let amounts = c.args.sent.now.amounts.now in
    let flows = c.args.sent.now.flows.now in
    let sums = c.pool_sums-sums.ensures in
    let t = summable B.m c.loop-p.p (length B.bids.now) (length amounts) (length flows) in
    let yes : t ≡ true = fits_summable B.m c.loop-p.p (length B.bids.now) (length amounts) (length flows) (tables_fit (book_of B) amounts flows c.requires) c.loop-p-test.true in
    ap₂ eqb
    (ap₂ ◌+◌ (sums.sold_is ∙ on_true t _ yes) (sums.inflow_is ∙ on_true t _ yes))
    (ap₂ ◌+◌ (sums.bought_is ∙ on_true t _ yes) (sums.outflow_is ∙ on_true t _ yes))

pub returns-then-sums : goal.returns-then-sums
returns-then-sums c =
    let B = c.args.book.now in
    sym (all_to_fails B.m (pool_balanced B.m B.bids.now c.args.sent.now.amounts.now c.args.sent.now.flows.now) c.loop-p.p c.loop-p-test.true
    (sym (found (goal.at.returns-then-sums c).After-pool_sums-sums) ∙ ne_eqb _ _ c.if-sums.true))

pub loop-p-preserved : goal.loop-p-preserved
loop-p-preserved c =
    let B = c.args.book.now in
    all_to_turn c.loop-p.p (pool_balanced B.m B.bids.now c.args.sent.now.amounts.now c.args.sent.now.flows.now) c.loop-p.invariant
    (sym (found (goal.at.loop-p-preserved c).After-pool_sums-sums) ∙ eq-eqb _ _ c.if-sums.false)
