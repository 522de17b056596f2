-- "A three-number book read with hundredths 0" (document 02, request 5).
use Rattle.std.specs.Prelude.{List, [], ◌∷◌, ℤ, pos}
use Rattle.definitions.specs.Book.{Book, book}
use Rattle.definitions.specs.Clearing.{Clearing}
use Rattle.earlier.specs.Earlier as earlier

-- A bid table: behind the three numbers of each bid its hundredths, 0. A table that ends within a bid keeps what it has of that bid; such a table is
-- refused for its length, and was.
unfoldable pub widened_table : List ℤ → List ℤ
widened_table [] = []
widened_table (pool ∷ []) = pool ∷ []
widened_table (pool ∷ price ∷ []) = pool ∷ price ∷ []
widened_table (pool ∷ price ∷ quantity ∷ rest) = pool ∷ price ∷ quantity ∷ pos 0 ∷ widened_table rest

-- a book
abbrev pub widened_book : earlier.Book → Book
widened_book B = book B.n B.m (widened_table B.bids) B.capacities

-- the clearing with the same amounts and flows
abbrev pub same_clearing : earlier.Clearing → Clearing
same_clearing c = record { accepted = c.accepted; flow = c.flow }
