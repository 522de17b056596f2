-- Invariant: what is read so far, fed the rest of the piece, is the first state fed the whole piece.
use Rattle.std.specs.Prelude.{◌≡◌, drop}
use Rattle.text.specs.Reading.{read_so_far, fed}
use Rattle.text.proofs.Reader.feed.Given as goal

abbrev pub invariant-loop-byte : goal.invariant-loop-byte
invariant-loop-byte l = fed (read_so_far l.reader l.numbers) (drop l.byte-index l.bytes) ≡ fed (read_so_far l.initial.reader l.initial.numbers) l.bytes
