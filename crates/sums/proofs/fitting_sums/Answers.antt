-- `fitting_sums` meets its contract: each sum is the definition's.
use Rattle.std.proofs.Common.{◌∙◌}
use Rattle.sums.specs.Pools.{side_sold, side_bought, column_inflow, row_outflow}
use Rattle.sums.proofs.fitting_sums.Goals as goal

pub returns : goal.returns
returns c =
    let a = c.args in
    record {
      sold_is = c.side_in.ensures.0 ∙ side_sold a.m a.bids.now a.amounts.now a.flows.now a.p;
      bought_is = c.side_in-2.ensures.0 ∙ side_bought a.m a.bids.now a.amounts.now a.flows.now a.p;
      inflow_is = c.carried.ensures.0 ∙ column_inflow a.m a.bids.now a.amounts.now a.flows.now a.p;
      outflow_is = c.carried-2.ensures.0 ∙ row_outflow a.m a.bids.now a.amounts.now a.flows.now a.p;
      small = (c.side_in.ensures.1, c.side_in-2.ensures.1, c.carried.ensures.1, c.carried-2.ensures.1);
    }
