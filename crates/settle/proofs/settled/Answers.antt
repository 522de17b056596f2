-- What is listed is for the text that was read.
use Rattle.std.proofs.Common.{refl}
use Rattle.settle.specs.Whole.{prints_whole}
use Rattle.settle.proofs.settled.Goals as goal

pub returns : goal.returns
returns g c = prints_whole _ _ _ _ refl c.read_text-input.ensures c.list_text.ensures
