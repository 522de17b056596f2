-- `put_listing` meets its contract: the lines of bids, flows and prices and the welfare's, one behind the other.
use Rattle.std.proofs.Common.{ap, to_z-of_z}
use Rattle.definitions.specs.Settle.{welfare_line, listing}
use Rattle.listing.specs.Page.{then_wrote, same_text}
use Rattle.listing.proofs.page.Page.put_listing.Goals as goal

pub returns : goal.returns
unfolding listing
returns c =
    let welfare = same_text (ap welfare_line (to_z-of_z c.ranges.welfare)) c.put_welfare.ensures in
    then_wrote c.put_bids.ensures (then_wrote c.put_flows.ensures (then_wrote c.put_prices.ensures welfare))
