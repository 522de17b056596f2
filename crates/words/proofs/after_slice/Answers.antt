-- `after_slice` meets its contract: the slice ends behind its length if the words are there.
use Rattle.std.proofs.Common.{◌∙◌, arith}
use Rattle.words.proofs.Positions.{missing_length, slice_here}
use Rattle.words.proofs.after_slice.Goals as goal

pub returns-then-count-at : goal.returns-then-count-at
returns-then-count-at c = missing_length _ _ c.if-count-at.true

pub returns : goal.returns
returns c = c.then_some.ensures ∙ slice_here c.args.input.now c.args.at _ (omega arith) (omega arith)
