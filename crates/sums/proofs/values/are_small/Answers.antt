-- `are_small` meets its contract: each amount passes the test.
use Rattle.std.proofs.Common.{rules}
use Rattle.sums.specs.SummedWelfare.{amounts_small_decided}
use Rattle.sums.proofs.values.are_small.Goals as goal

pub returns : goal.returns
returns c = amounts_small_decided c.all.result c.args.accepted.now (search rules)
