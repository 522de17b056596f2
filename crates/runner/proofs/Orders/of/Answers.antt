-- `Orders::of` meets its contract: all are left.
use Rattle.std.proofs.Common.{sym}
use Rattle.codec.specs.PlanBytes.{rest_start_lem}
use Rattle.runner.proofs.Orders.of.Goals as goal

pub returns : goal.returns
returns c = sym (rest_start_lem c.args.bytes.now)
