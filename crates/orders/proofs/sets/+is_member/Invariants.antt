-- each call has one pool less
use Rattle.orders.proofs.sets.+is_member.Given as goal

abbrev pub decreases-is_member : goal.decreases-is_member
decreases-is_member l = l.p
