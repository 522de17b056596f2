-- `put_last` meets its contract: a space, the number and a line end, one behind the other.
use Rattle.std.proofs.Common.{ap, ◌∙◌, to_z-of_z}
use Rattle.std.specs.Fmt as std
use Rattle.listing.specs.Digits.{signed_printed}
use Rattle.listing.specs.Page.{then_wrote, same_text}
use Rattle.listing.proofs.page.Page.put_last.Goals as goal

pub returns : goal.returns
returns c =
    let number = same_text (ap std.signed_decimal (to_z-of_z c.ranges.v) ∙ signed_printed c.args.v c.ranges.v.sfits) c.put_number.ensures in
    then_wrote c.put.ensures (then_wrote number c.put-2.ensures)
