-- 1 moved up by m binary digits is 2 ^ m, which is far below the width.
use Rattle.std.proofs.Common.{arith}
use Rattle.definitions.specs.Counts.{pools_fit}
use Rattle.plan.proofs.PlanFacts.{power_small}
use Rattle.orders.proofs.sets.subset_count.Goals as goal

pub returns : goal.returns
returns c = omega (arith, power_small c.args.counts.m (pools_fit c.args.counts))
