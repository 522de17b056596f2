-- `write_unreadable` meets its contract: the text is one word, written where there is room.
use Rattle.std.proofs.Common.{◌≡◌, arith, rules, length, le-leb, refl}
use Rattle.std.proofs.lemmas.Bool.{lt-leb}
use Rattle.std.specs.Prelude.{leb}
use Rattle.definitions.specs.Settle.{unreadable_text}
use Rattle.listing.specs.Text.{text_room, unreadable_size, unreadable_slice}
use Rattle.listing.specs.Written.{text_written, nothing_written_lem}
use Rattle.listing.proofs.write_unreadable.Goals as goal

pub returns-then-out-lt-ROOM : goal.returns-then-out-lt-ROOM
unfolding unreadable_size unreadable_slice
returns-then-out-lt-ROOM c =
    let out = c.args.out.now in
    let w = nothing_written_lem (leb text_room (length out)) unreadable_text out (lt-leb _ _ c.if-out-lt-ROOM.true) in
    record { size = w.0; bytes = w.1 }

pub returns : goal.returns
unfolding unreadable_size unreadable_slice unreadable_text
returns c =
    let w = text_written (leb text_room (length c.args.out.now)) (le-leb _ _ c.if-out-lt-ROOM.false) refl (omega arith) c.put.ensures in
    let bytes : c.put.new.self.out.now ≡ unreadable_slice c.args.out.now = w.1 in
    record { size = w.0; bytes = search (rules, bytes) }
