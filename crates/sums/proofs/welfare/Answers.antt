-- `welfare` meets its contract: what can be summed is summed, and all else is 0.
use Rattle.std.proofs.Common.{sym, ◌∙◌, rules}
use Rattle.sums.specs.SummedWelfare.{amounts_fit_lem, summed}
use Rattle.sums.proofs.welfare.Goals as goal

pub sum_values-requires : goal.sum_values-requires
sum_values-requires c = amounts_fit_lem c.args.bids.now c.args.accepted.now (sym c.do_amounts_fit.ensures ∙ c.if-not-do_amounts_fit.false)

pub returns-then-not-do_amounts_fit : goal.returns-then-not-do_amounts_fit
unfolding summed
returns-then-not-do_amounts_fit c = search rules
