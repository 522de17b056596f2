-- `put_bid` meets its contract: the word with the bid's number, and behind it the last field.
use Rattle.definitions.specs.Settle.{bid_line}
use Rattle.listing.specs.Lines.{last_widened}
use Rattle.listing.specs.Page.{then_wrote, same_text}
use Rattle.listing.proofs.page.Page.put_bid.Goals as goal

pub returns : goal.returns
unfolding bid_line
returns c = then_wrote c.put_field.ensures (same_text (last_widened c.ranges.accepted c.from.ensures) c.put_last.ensures)
