-- `list_sheet` meets its contract: opening refuses nothing, and its results are as many as the listing asks for.
use Rattle.std.proofs.Common.{◌∙◌, rules, to_z-of_z}
use Rattle.definitions.specs.Sheet.{result_count}
use Rattle.settlement.proofs.Listed.{opened, listed_size, listed_slice}
use Rattle.settlement.proofs.list_sheet.Goals as goal

pub returns : goal.returns
returns c =
    let a = c.args in
    let k = a.counts in
    let count = result_count k.n k.m in
    let left = c.«open».ensures.results ∙ opened k.n k.m a.sheet.now count c.requires _ (search rules) in
    record {
      size = c.write_listing.ensures.size ∙ listed_size k.n k.m a.sheet.now count c.requires _ _ a.welfare a.out.now left (to_z-of_z c.ranges.welfare);
      bytes = c.write_listing.ensures.bytes ∙ listed_slice k.n k.m a.sheet.now count c.requires _ _ a.welfare a.out.now left (to_z-of_z c.ranges.welfare);
    }
