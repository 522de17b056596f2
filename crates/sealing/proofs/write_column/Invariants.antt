-- Invariant: the first i cells of the column are written.
use Rattle.definitions.specs.Book.{book_of}
use Rattle.definitions.specs.Columns.{column}
use Rattle.laws.specs.Write.{WrittenSoFar}
use Rattle.sealing.specs.Numbers.{number_in_row}
use Rattle.sealing.proofs.write_column.Given as goal

abbrev pub invariant-loop-i : goal.invariant-loop-i
invariant-loop-i l = WrittenSoFar l.initial.cells (column (number_in_row (book_of l.book) l.place) l.book.n) l.cells l.i
