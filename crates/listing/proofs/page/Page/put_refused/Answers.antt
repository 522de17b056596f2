-- `put_refused` meets its contract: the word with the number, the place and a line end, one behind the other.
use Rattle.definitions.specs.Settle.{refused_text}
use Rattle.listing.specs.Page.{then_wrote}
use Rattle.listing.proofs.page.Page.put_refused.Goals as goal

pub returns : goal.returns
unfolding refused_text
returns c = then_wrote c.put_field.ensures (then_wrote c.put_field-2.ensures c.put.ensures)
