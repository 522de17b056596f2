-- `write_column` meets its contract: each turn writes the residue of one bid's number.
use Rattle.std.proofs.Common.{ℕ, ◌+◌, ◌*◌, ap, sym, ◌∙◌, pos, get_or, w32, rules, arith}
use Rattle.definitions.specs.Limits.{bid_numbers}
use Rattle.definitions.specs.Arithmetic.{residue}
use Rattle.definitions.specs.Book.{book_of}
use Rattle.laws.specs.SignedTests.{back}
use Rattle.laws.specs.Joined.{joined_length, joined_entry}
use Rattle.laws.specs.Write.{writing_turn, writing_ends}
use Rattle.sealing.specs.Numbers.{number_in_row, number_held}
use Rattle.sealing.proofs.write_column.Goals as goal

pub loop-i-preserved : goal.loop-i-preserved
loop-i-preserved c =
    let l = c.loop-i in
    let place = c.args.place in
    let B = book_of c.args.book.now in
    let cell = λ (i : ℕ). residue (number_in_row B place i) in
    writing_turn (joined_length B.n cell ∙ sym c.requires.a_cell_each) l.invariant 0 c.residue.result (omega arith)
    (c.residue.ensures
    ∙ ap residue (back w32 (get_or B.bids (bid_numbers * l.i + place) (pos 0)) (search rules) ∙ number_held B place l.i)
    ∙ sym (joined_entry B.n cell 0 l.i (omega arith)))

pub returns : goal.returns
returns c =
    let B = book_of c.args.book.now in
    writing_ends (joined_length B.n (λ (i : ℕ). residue (number_in_row B c.args.place i)) ∙ sym c.requires.a_cell_each) c.loop-i.invariant (omega arith)
