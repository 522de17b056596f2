-- A turn feeds one byte more, and the end of the piece leaves none.
use Rattle.std.proofs.Common.{ap, ◌∙◌, arith}
use Rattle.text.specs.Steps.{fed_on, fed_all}
use Rattle.text.specs.Reading.{Reading, read_so_far}
use Rattle.text.proofs.Reader.feed.Goals as goal

pub loop-byte-preserved : goal.loop-byte-preserved
loop-byte-preserved c =
    let l = c.loop-byte in
    fed_on (read_so_far l.reader l.numbers) c.args.bytes.now l.byte-index _ _ (omega arith) c.step-reader.ensures.value c.step-reader.ensures.numbers_after
    ∙ l.invariant

pub returns-clause-value : goal.returns-clause-value
returns-clause-value c =
    let l = c.loop-byte in
    ap (λ (s : Reading). s.reader) (fed_all (read_so_far l.reader l.numbers) c.args.bytes.now l.byte-index (omega arith) ∙ l.invariant)

pub returns-clause-numbers_after : goal.returns-clause-numbers_after
returns-clause-numbers_after c =
    let l = c.loop-byte in
    ap (λ (s : Reading). s.numbers) (fed_all (read_so_far l.reader l.numbers) c.args.bytes.now l.byte-index (omega arith) ∙ l.invariant)
