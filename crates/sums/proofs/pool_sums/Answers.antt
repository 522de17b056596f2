-- `pool_sums` meets its contract: what passes the test fits.
use Rattle.std.proofs.Common.{◌<◌, sym, ◌∙◌, length}
use Rattle.sums.specs.Pools.{TablesFit, summable_fits}
use Rattle.sums.proofs.pool_sums.Goals as goal
use Rattle.sums.proofs.pool_sums.Goals.{Else-not-is_summable}

fit : (c : Else-not-is_summable) → let a = c.args in TablesFit a.m (length a.bids.now) (length a.amounts.now) (length a.flows.now) × (a.p < a.m)
fit c = let a = c.args in summable_fits a.m a.p (length a.bids.now) (length a.amounts.now) (length a.flows.now) (sym c.is_summable.ensures ∙ c.if-not-is_summable.false)

pub fitting_sums-requires-clause-tables_fit : goal.fitting_sums-requires-clause-tables_fit
fitting_sums-requires-clause-tables_fit c = (fit c).0

pub fitting_sums-requires-clause-p_lt_m : goal.fitting_sums-requires-clause-p_lt_m
fitting_sums-requires-clause-p_lt_m c = (fit c).1
