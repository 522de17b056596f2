-- `put_price` meets its contract: the word with the pool, and behind it the last field or that the price is missing.
use Rattle.std.proofs.Common.{ap, rules, w64, SFits, to_z-of_z}
use Rattle.listing.specs.Lines.{last_field}
use Rattle.listing.specs.Page.{then_wrote, same_text}
use Rattle.listing.proofs.page.Page.put_price.Goals as goal

pub returns-in-Some : goal.returns-in-Some
returns-in-Some c =
    let fits : SFits w64 c.in-Some.price = search rules in
    rw c.in-Some.is (then_wrote c.put_field.ensures (same_text (ap last_field (to_z-of_z fits)) c.put_last.ensures))

pub returns-in-None : goal.returns-in-None
returns-in-None c = rw c.in-None.is (then_wrote c.put_field.ensures c.put.ensures)
