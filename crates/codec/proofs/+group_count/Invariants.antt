-- each call has one group less
use Rattle.codec.proofs.+group_count.Given as goal

abbrev pub decreases-group_count : goal.decreases-group_count
decreases-group_count l = l.g
