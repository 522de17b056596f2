-- `put_field` meets its contract: the word, and the number behind it.
use Rattle.listing.specs.Digits.{decimal_printed}
use Rattle.listing.specs.Page.{then_wrote, same_text}
use Rattle.listing.proofs.page.Page.put_field.Goals as goal

pub returns : goal.returns
returns c = then_wrote c.put.ensures (same_text (decimal_printed c.args.v c.ranges.v.fits) c.put_number.ensures)
