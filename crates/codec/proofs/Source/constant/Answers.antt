-- `Source::constant` meets its contract: the limit of a constant.
use Rattle.std.proofs.Common.{◌∙◌}
use Rattle.definitions.specs.Limits.{modulus}
use Rattle.definitions.specs.Bytes.{number_at, constant_at}
use Rattle.codec.proofs.Steps.{limited_below}
use Rattle.codec.proofs.Source.constant.Goals as goal

pub returns : goal.returns
unfolding constant_at
returns c = let self = c.args.self.now in c.limited.ensures ∙ limited_below self.start modulus 12 (number_at self.bytes.now c.args.at)
