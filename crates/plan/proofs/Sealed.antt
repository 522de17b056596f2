-- What the sealed sheet of a sound book holds, by names (`sealed_inputs`).
use Rattle.std.specs.Prelude.{◌≡◌, length}
use Rattle.std.proofs.Common.{ap, ◌∙◌, arith, [], ◌∷◌, ℕ, zero, suc, ◌+◌, ◌*◌, ◌<◌}
use Rattle.std.proofs.lemmas.Bool.{false≢true}
use Rattle.std.proofs.Math.Arith.{digits_lt}
use Rattle.definitions.specs.Limits.{bid_numbers, price_place, quantity_place, hundredths_place}
use Rattle.definitions.specs.Arithmetic.{sum_to, residue}
use Rattle.definitions.specs.Book.{Book, capacity}
use Rattle.definitions.specs.Sheet.{sealed_sheet}
use Rattle.definitions.specs.Machine.{cell}
use Rattle.laws.specs.AcceptedBook.{Sound}
use Rattle.plan.specs.Orders.{State}
use Rattle.plan.proofs.Holds.{Holds, holds_add}
use Rattle.plan.specs.Names.{at, Bids, Capacities, ZeroCells}
use Rattle.plan.proofs.Values.{cell_tables, bid_cell}
use Rattle.plan.specs.Plan.{cell_of}
use Rattle.plan.proofs.Whole.{inputs}
use Rattle.plan.proofs.SealedSheet.{sealed_bid, sealed_capacity, sealed_zero}

module _ (B : Book) (sound : Sound B) where
  -- the sheet by names
  abbrev pub sealed_state : State
  sealed_state c = cell (sealed_sheet B) (cell_of B.n B.m c)

  at_cell : {c : ℕ} (k : ℕ) → c ≡ k → cell (sealed_sheet B) c ≡ cell (sealed_sheet B) k
  at_cell k e = ap (λ (c : ℕ). cell (sealed_sheet B) c) e

  bid_cells : (i j : ℕ) → i < B.n → j < bid_numbers → sealed_state (at Bids i j) ≡ bid_cell B i j
  unfolding sum_to
  bid_cells i zero a b = at_cell (bid_numbers * i) (omega arith) ∙ sealed_bid B (bid_numbers * i) (omega (arith, sound.bid_table))
  bid_cells i (suc zero) a b = at_cell (bid_numbers * i + price_place) (omega arith) ∙ sealed_bid B (bid_numbers * i + price_place) (omega (arith, sound.bid_table))
  bid_cells i (suc (suc zero)) a b = at_cell (bid_numbers * i + quantity_place) (omega arith) ∙ sealed_bid B (bid_numbers * i + quantity_place) (omega (arith, sound.bid_table))
  bid_cells i (suc (suc (suc zero))) a b = at_cell (bid_numbers * i + hundredths_place) (omega arith) ∙ sealed_bid B (bid_numbers * i + hundredths_place) (omega (arith, sound.bid_table))
  bid_cells i (suc (suc (suc (suc j)))) a b = absurd (omega arith)

  capacity_cells : (a b : ℕ) → a < B.m → b < B.m → sealed_state (at Capacities a b) ≡ capacity B a b
  unfolding sum_to
  capacity_cells a b x y =
      at_cell (length B.bids + (a * B.m + b)) (omega (arith, sound.bid_table))
      ∙ sealed_capacity B (a * B.m + b) (omega (arith, sound.capacity_table, digits_lt x y))
      ∙ ap residue (sound.capacity_is a b x y)

  pub sealed_inputs : Holds (cell_tables B) inputs sealed_state
  unfolding sum_to
  sealed_inputs =
      holds_add (cell_tables B) Bids (Capacities ∷ ZeroCells ∷ []) sealed_state bid_cells
      (holds_add (cell_tables B) Capacities (ZeroCells ∷ []) sealed_state capacity_cells
      (holds_add (cell_tables B) ZeroCells [] sealed_state (λ i j a b. sealed_zero B sound (cell_of B.n B.m (at ZeroCells i j)) (omega arith)) (λ t e. absurd {0} (false≢true e))))
