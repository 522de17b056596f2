-- The two sealed sheets of an accepted book hold the same values under the renumbering to columns (`sealed_alike`), so after any orders, and renumbered by
-- columns, they still do, after every one (`after_every_order`).
use Rattle.std.specs.Prelude.{◌≡◌, Bool, ℕ, ◌+◌, ◌-◌, ◌*◌, ◌/◌, ◌%◌, ◌≤◌, ◌<◌, List, ◌++◌, map, length, replicate, take}
use Rattle.std.proofs.Common.{sym, ap, ◌∙◌, arith, append_assoc, length-append, get_or-append-add, mul-le-mul}
use Rattle.std.proofs.lemmas.List.{length-map, length-replicate, take-map}
use Rattle.std.proofs.Math.ListN.{get_or-append}
use Rattle.std.proofs.Math.Arith.{digits_lt}
use Rattle.definitions.specs.declared.Order.{Order}
use Rattle.definitions.specs.Limits.{bid_numbers, cell_count}
use Rattle.definitions.specs.Arithmetic.{residue, join_to}
use Rattle.definitions.specs.Book.{Book}
use Rattle.definitions.specs.Sheet.{sealed_sheet}
use Rattle.definitions.specs.Machine.{cell, run_of}
use Rattle.definitions.specs.Columns.{column_of, column_cell, renumbered, column, column_sealed_sheet, SameUnder}
use Rattle.laws.specs.Tests.{Lt?, less, more, lt?}
use Rattle.laws.specs.Joined.{parts_length, parts_entry, joined_length, joined_entry}
use Rattle.laws.specs.AcceptedBook.{Sound}
use Rattle.columns.specs.Renumbering.{Alike, run_renumbered}
use Rattle.sealing.specs.Numbers.{number_in_row, number_held}
use Rattle.columns.specs.Cells.{column_small, column_twice, column_of_bid, column_kept, columns_renumber}
use Rattle.plan.proofs.SealedSheet.{sealed_length, sealed_bid, sealed_past}

module _ (B : Book) (sound : Sound B) where
  -- the four columns
  abbrev columns : List ℕ
  columns = join_to bid_numbers (λ k. column (number_in_row B (column_of k)) B.n)

  abbrev behind : List ℕ
  behind = map residue B.capacities ++ replicate (cell_count - (length B.bids + length B.capacities)) 0

  -- the columns, one after another, and what stands behind them
  parts : column_sealed_sheet B ≡ columns ++ behind
  unfolding column_sealed_sheet join_to
  parts = append_assoc columns (map residue B.capacities) (replicate (cell_count - (length B.bids + length B.capacities)) 0)

  column_long : (k : ℕ) → length (column (number_in_row B (column_of k)) B.n) ≡ B.n
  column_long k = joined_length B.n _

  columns_long : length columns ≡ bid_numbers * B.n
  columns_long = parts_length B.n _ column_long bid_numbers

  -- number i of a column
  column_entry : (k i : ℕ) → k < bid_numbers → i < B.n → cell (column_sealed_sheet B) (k * B.n + i) ≡ residue (number_in_row B (column_of k) i)
  column_entry k i l h =
      ap (λ (s : List ℕ). cell s (k * B.n + i)) parts
      ∙ get_or-append columns behind 0 (k * B.n + i) (omega (arith, columns_long, digits_lt l h))
      ∙ parts_entry B.n _ column_long 0 bid_numbers k i l h
      ∙ joined_entry B.n _ 0 i h

  bid_cell : (i place : ℕ) → i < B.n → place < bid_numbers → cell (column_sealed_sheet B) (column_cell B.n (bid_numbers * i + place)) ≡ cell (sealed_sheet B) (bid_numbers * i + place)
  bid_cell i place l h =
      ap (cell (column_sealed_sheet B)) (column_of_bid B.n i place l h)
      ∙ column_entry (column_of place) i (column_small place) l
      ∙ ap residue (ap (λ (j : ℕ). number_in_row B j i) (column_twice place h) ∙ sym (number_held B place i))
      ∙ sym (sealed_bid B (bid_numbers * i + place) (omega (arith, sound.bid_table)))

  -- behind the bids both are the same
  further_cell : (k : ℕ) → cell (column_sealed_sheet B) (bid_numbers * B.n + k) ≡ cell (sealed_sheet B) (bid_numbers * B.n + k)
  further_cell k =
      ap (λ (s : List ℕ). cell s (bid_numbers * B.n + k)) parts
      ∙ ap (λ (at : ℕ). cell (columns ++ behind) (at + k)) (sym columns_long)
      ∙ get_or-append-add columns behind k 0
      ∙ sym (sealed_past B k)
      ∙ ap (λ (at : ℕ). cell (sealed_sheet B) (at + k)) sound.bid_table

  same_cell : SameUnder (column_cell B.n) (sealed_sheet B) (column_sealed_sheet B)
  same_cell c = go (lt? c (bid_numbers * B.n))
    where
      go : {t : Bool} → Lt? c (bid_numbers * B.n) t → cell (column_sealed_sheet B) (column_cell B.n c) ≡ cell (sealed_sheet B) c
      go (less l) =
          let e : bid_numbers * (c / bid_numbers) + c % bid_numbers ≡ c = omega arith in
          rw e at (bid_cell (c / bid_numbers) (c % bid_numbers) (omega arith) (omega arith))
      go (more l) =
          let e : bid_numbers * B.n + (c - bid_numbers * B.n) ≡ c = omega arith in
          ap (cell (column_sealed_sheet B)) (column_kept B.n c l) ∙ rw e at (further_cell (c - bid_numbers * B.n))

  column_sealed_length : length (column_sealed_sheet B) ≡ cell_count
  column_sealed_length =
      ap length parts
      ∙ length-append columns behind
      ∙ omega (
        arith,
        columns_long,
        length-map B.capacities residue,
        length-append (map residue B.capacities) (replicate {A = ℕ} (cell_count - (length B.bids + length B.capacities)) 0),
        length-replicate {A = ℕ} (cell_count - (length B.bids + length B.capacities)) 0,
        sound.bid_table,
        sound.capacity_table,
        sound.bids,
        mul-le-mul sound.pools sound.pools,
      )

  -- the bids have room on the sheet
  pub room : bid_numbers * B.n ≤ cell_count
  room = omega (arith, sound.bids)

  pub sealed_alike : Alike cell_count (column_cell B.n) (sealed_sheet B) (column_sealed_sheet B)
  sealed_alike = record { first = sealed_length B sound; second = column_sealed_length; same = same_cell }

  -- "After every order, counted from a sealed book, the two sheets hold the same values under that renumbering": k of any orders
  pub after_every_order : (os : List Order) (k : ℕ)
      → SameUnder (column_cell B.n) (run_of (take k os) (sealed_sheet B)) (run_of (take k (map (renumbered (column_cell B.n)) os)) (column_sealed_sheet B))
  after_every_order os k c =
      ap (λ (l : List Order). cell (run_of l (column_sealed_sheet B)) (column_cell B.n c)) (take-map (renumbered (column_cell B.n)) k os)
      ∙ (run_renumbered (columns_renumber B.n cell_count room) (take k os) (sealed_sheet B) (column_sealed_sheet B) sealed_alike).same c
