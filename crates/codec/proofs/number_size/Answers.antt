-- `codec::number_size` meets its contract: a number has at most five groups.
use Rattle.std.proofs.Common.{arith}
use Rattle.definitions.specs.Bytes.{most_groups, number_bytes}
use Rattle.codec.specs.Groups.{at_most}
use Rattle.codec.proofs.number_size.Goals as goal

pub returns : goal.returns
unfolding number_bytes
returns c = (c.group_count.ensures, omega (arith, c.group_count.ensures, at_most most_groups c.args.v))
