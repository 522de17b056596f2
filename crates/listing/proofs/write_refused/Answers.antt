-- `write_refused` meets its contract: the text fits, and is written where there is room.
use Rattle.std.proofs.Common.{◌≡◌, arith, rules, length, le-leb, refl}
use Rattle.std.proofs.lemmas.Bool.{lt-leb}
use Rattle.std.specs.Prelude.{leb}
use Rattle.definitions.specs.Settle.{refused_text}
use Rattle.listing.specs.Room.{refused_fits}
use Rattle.listing.specs.Text.{text_room, refused_size, refused_slice}
use Rattle.listing.specs.Written.{text_written, nothing_written_lem}
use Rattle.listing.proofs.write_refused.Goals as goal

pub returns-then-out-lt-ROOM : goal.returns-then-out-lt-ROOM
unfolding refused_size refused_slice
returns-then-out-lt-ROOM c =
    let a = c.args in
    let w = nothing_written_lem (leb text_room (length a.out.now)) (refused_text a.number a.place) a.out.now (lt-leb _ _ c.if-out-lt-ROOM.true) in
    record { size = w.0; bytes = w.1 }

pub returns : goal.returns
unfolding refused_size refused_slice
returns c =
    let a = c.args in
    let w = text_written (leb text_room (length a.out.now)) (le-leb _ _ c.if-out-lt-ROOM.false) refl (omega (arith, refused_fits a.number a.place)) c.put_refused.ensures in
    let bytes : c.put_refused.new.self.out.now ≡ refused_slice a.number a.place a.out.now = w.1 in
    record { size = w.0; bytes = search (rules, bytes) }
