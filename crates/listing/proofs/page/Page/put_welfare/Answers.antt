-- `put_welfare` meets its contract: the word, and behind it the last field.
use Rattle.std.proofs.Common.{ap, to_z-of_z}
use Rattle.definitions.specs.Settle.{welfare_line}
use Rattle.listing.specs.Lines.{last_field}
use Rattle.listing.specs.Page.{then_wrote, same_text}
use Rattle.listing.proofs.page.Page.put_welfare.Goals as goal

pub returns : goal.returns
unfolding welfare_line
returns c = then_wrote c.put.ensures (same_text (ap last_field (to_z-of_z c.ranges.welfare)) c.put_last.ensures)
