-- `settle_tables` meets its contract: without room nothing is done; with it what clearing says decides, and an accepted book's sheet opens.
use Rattle.std.proofs.Common.{sym, ◌∙◌, rules, length, to_z-of_z, w64}
use Rattle.definitions.specs.Answers.{stated}
use Rattle.definitions.specs.Settle.{readable, refused}
use Rattle.laws.specs.Search.{turned_away}
use Rattle.settlement.specs.Settled.{book_at}
use Rattle.settlement.proofs.Texts.{no_room, size_of, slice_of, same_size, same_slice, refused_text_lem, sheet_cleared, opens, accepted_text}
use Rattle.settlement.proofs.settle_tables.Goals as goal

pub returns-then-out-lt-ROOM : goal.returns-then-out-lt-ROOM
returns-then-out-lt-ROOM c =
    let a = c.args in
    let kept = no_room (book_at a.tables.n a.tables.m a.numbers.now) (length a.sheet.now) a.sheet.now a.out.now c.if-out-lt-ROOM.true in
    record { size = kept.0; cells = kept.1.0; bytes = kept.1.1 }

pub list_sheet-requires : goal.list_sheet-requires
list_sheet-requires c =
    let a = c.args in
    let k = c.in-Ok in
    opens (book_at a.tables.n a.tables.m a.numbers.now) a.sheet.now _ (sym k.ensures.refusal) k.ensures.cells k.counts.n k.counts.m k.ensures.counts

pub returns-in-Ok : goal.returns-in-Ok
returns-in-Ok c =
    let a = c.args in
    let k = c.in-Ok in
    let B = book_at a.tables.n a.tables.m a.numbers.now in
    let welfare = to_z-of_z {w = w64} (search rules) ∙ k.ensures.welfare in
    let text = accepted_text B a.sheet.now _ (sym k.ensures.refusal) k.ensures.cells k.counts.n k.counts.m k.ensures.counts _ welfare in
    record {
      size = c.list_sheet.ensures.size ∙ size_of (readable B) (length a.sheet.now) _ a.out.now text;
      cells = sheet_cleared B (length a.out.now) a.sheet.now _ c.if-out-lt-ROOM.false k.ensures.cells;
      bytes = c.list_sheet.ensures.bytes ∙ slice_of (readable B) (length a.sheet.now) _ a.out.now text;
    }

pub returns-in-Err : goal.returns-in-Err
returns-in-Err c =
    let a = c.args in
    let k = c.in-Err in
    let B = book_at a.tables.n a.tables.m a.numbers.now in
    let cells = length a.sheet.now in
    let r = stated k.reason in
    let text = refused_text_lem B r cells k.ensures.refusal (turned_away k.reason k.ensures.refusal) in
    record {
      size = c.write_why.ensures.size a.numbers.now cells ∙ same_size (refused r) (readable B) cells a.out.now text;
      cells = sheet_cleared B (length a.out.now) a.sheet.now _ c.if-out-lt-ROOM.false k.ensures.cells;
      bytes = c.write_why.ensures.bytes a.numbers.now cells ∙ same_slice (refused r) (readable B) cells a.out.now text;
    }
