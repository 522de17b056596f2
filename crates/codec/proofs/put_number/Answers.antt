-- `put_number` meets its contract: a number has at most five groups.
use Rattle.definitions.specs.Bytes.{number_bytes}
use Rattle.codec.proofs.put_number.Goals as goal

pub put_groups-requires : goal.put_groups-requires
unfolding number_bytes
put_groups-requires c = c.requires

pub returns : goal.returns
unfolding number_bytes
returns c = c.put_groups.ensures
