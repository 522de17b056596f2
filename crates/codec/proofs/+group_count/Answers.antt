-- `codec::group_count` meets its contract: each return is one clause of `groups`.
use Rattle.std.proofs.Common.{◌-◌, ◌/◌, sym, ap, arith, length}
use Rattle.codec.specs.Groups.{at_most}
use Rattle.codec.proofs.Places.{groups_none, groups_last, groups_more}
use Rattle.codec.proofs.+group_count.Goals as goal

pub returns-then-g-eq0 : goal.returns-then-g-eq0
returns-then-g-eq0 t c = sym (ap length (groups_none c.args.g c.args.v c.if-g-eq0.true))

pub returns-then-v-lt128 : goal.returns-then-v-lt128
returns-then-v-lt128 t c = sym (ap length (groups_last c.args.g c.args.v c.if-g-eq0.false c.if-v-lt128.true))

pub overflow_add-result : goal.overflow_add-result
overflow_add-result t c = omega (arith, c.group_count.ensures, at_most (c.args.g - 1) (c.args.v / 128), c.ranges.g)

pub returns : goal.returns
returns t c = omega (arith, c.group_count.ensures, ap length (groups_more c.args.g c.args.v c.if-g-eq0.false c.if-v-lt128.false))
