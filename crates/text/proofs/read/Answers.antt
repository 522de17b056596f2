-- What the reader answers to the whole text is what the documents say of it.
use Rattle.std.proofs.Common.{refl}
use Rattle.text.specs.Texts.{none_stored, reads}
use Rattle.text.proofs.read.Goals as goal

pub returns-clause-input : goal.returns-clause-input
returns-clause-input c =
    let f = c.feed-reader.ensures in
    let e = c.finish.ensures in
    simp (e.value, e.numbers_after, f.value, f.numbers_after, c.start-start.ensures) (reads none_stored c.args.text.now refl)
