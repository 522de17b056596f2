-- `Source::kind` meets its contract: the limit of a kind.
use Rattle.std.proofs.Common.{◌∙◌}
use Rattle.definitions.specs.Bytes.{number_at, kind_at, kind_count}
use Rattle.codec.proofs.Steps.{limited_below}
use Rattle.codec.proofs.Source.kind.Goals as goal

pub returns : goal.returns
unfolding kind_at
returns c = let self = c.args.self.now in c.limited.ensures ∙ limited_below self.start kind_count 10 (number_at self.bytes.now self.start)
