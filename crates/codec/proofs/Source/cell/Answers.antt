-- `Source::cell` meets its contract: the limit of a cell.
use Rattle.std.proofs.Common.{◌∙◌}
use Rattle.definitions.specs.Limits.{cell_count}
use Rattle.definitions.specs.Bytes.{number_at, cell_at}
use Rattle.codec.proofs.Steps.{refused_as, limited_below}
use Rattle.codec.proofs.Source.cell.Goals as goal

pub returns-in_err-c : goal.returns-in_err-c
unfolding cell_at
returns-in_err-c c =
    let self = c.args.self.now in
    refused_as c.from_residual.result _ c.from_residual.ensures.1 (c.in_err-c.ensures ∙ limited_below self.start cell_count 12 (number_at self.bytes.now c.args.at))

pub returns : goal.returns
unfolding cell_at
returns c = let self = c.args.self.now in c.in_ok-c.ensures ∙ limited_below self.start cell_count 12 (number_at self.bytes.now c.args.at)
