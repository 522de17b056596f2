-- A plan by rows or by columns: the column plan is as long as the row plan (`plan_by_length`, `total_by`), has at each position its order renumbered
-- (`plan_by_entry`), is refused as it is (`ask_refusal_by`, `write_refusal_by`, `bytes_refusal_by`), and its orders are the machine's
-- (`plan_by_well_formed`).
use Rattle.std.specs.Prelude.{ℕ, ◌*◌, ◌≤◌, ◌<◌, ◌≡◌, refl, cond, List, [], ◌∷◌, map, ltb, eqb, length, get_or}
use Rattle.std.proofs.Common.{ap}
use Rattle.std.proofs.lemmas.List.{length-map, get_or-map}
use Rattle.definitions.specs.declared.Order.{Order}
use Rattle.definitions.specs.declared.Order.TheVariants.{Constant, Sum, Difference, Product, Less, Equal}
use Rattle.definitions.specs.Limits.{cell_count, bid_numbers}
use Rattle.definitions.specs.Machine.{ThreeCells, WellFormed, AllWellFormed}
use Rattle.definitions.specs.Answers.{Refusal, none, refuse, first, unless}
use Rattle.definitions.specs.Calls.{counts_refusal, length_refusal}
use Rattle.definitions.specs.Plan.{Plan, total, room_refusal, counts_size, position_refusal, ask_refusal, write_refusal, bytes_refusal}
use Rattle.definitions.specs.Columns.{column_cell, renumbered, column_plan}
use Rattle.columns.specs.declared.Numbering.{Numbering}
use Rattle.columns.specs.declared.Numbering.TheVariants.{Rows, Columns}
use Rattle.columns.specs.Renumbering.{Renumbering}
use Rattle.columns.specs.Cells.{columns_renumber}

-- an order by rows or by columns, for n bids
abbrev pub order_by : Numbering → (n : ℕ) → Order → Order
order_by Rows n o = o
order_by Columns n o = renumbered (column_cell n) o

-- and a plan
abbrev pub plan_by : Numbering → Plan → Plan
plan_by Rows P = P
plan_by Columns P = column_plan P

-- ---- as long as the row plan, and renumbered at each position

module _ (P : Plan) (n m : ℕ) where
  pub plan_by_length : (by : Numbering) → length (plan_by by P n m) ≡ length (P n m)
  unfolding column_plan
  plan_by_length Rows = refl
  plan_by_length Columns = length-map (P n m) (renumbered (column_cell n))

  pub plan_by_entry : (by : Numbering) (k : ℕ) → k < length (P n m) → get_or (plan_by by P n m) k (Constant 0 0) ≡ order_by by n (get_or (P n m) k (Constant 0 0))
  unfolding column_plan
  plan_by_entry Rows k l = refl
  plan_by_entry Columns k l = get_or-map (renumbered (column_cell n)) (P n m) k (Constant 0 0) (Constant 0 0) l

  -- the total is one number
  pub total_by : (by : Numbering) → total (plan_by by P) n m ≡ total P n m
  unfolding total
  total_by by = ap (λ (orders : ℕ). unless (counts_refusal n m) orders 0) (plan_by_length by)

  -- ---- "with the same refusals"

  same_position : (by : Numbering) (at : ℕ) → position_refusal (plan_by by P n m) at ≡ position_refusal (P n m) at
  same_position by at = ap (λ (total : ℕ). cond (ltb total at) (refuse 13 0) none) (plan_by_length by)

  pub ask_refusal_by : (by : Numbering) (at : ℕ) → ask_refusal (plan_by by P) n m at ≡ ask_refusal P n m at
  unfolding ask_refusal
  ask_refusal_by by at = ap (first (counts_refusal n m)) (same_position by at)

  pub write_refusal_by : (by : Numbering) (at room : ℕ) → write_refusal (plan_by by P) n m at room ≡ write_refusal P n m at room
  unfolding write_refusal
  write_refusal_by by at room = ap (λ (r : Refusal). first r (room_refusal room)) (ask_refusal_by by at)

  pub bytes_refusal_by : (by : Numbering) (at room out : ℕ) → bytes_refusal (plan_by by P) n m at room out ≡ bytes_refusal P n m at room out
  unfolding bytes_refusal
  bytes_refusal_by by at room out =
      ap (λ (r : Refusal). first (counts_refusal n m) (first (length_refusal (eqb out counts_size)) (first r (room_refusal room)))) (same_position by at)

-- ---- orders of the machine

module _ {new old : ℕ → ℕ} (r : Renumbering cell_count new old) where
  three_inside : (d a b : ℕ) → ThreeCells d a b → ThreeCells (new d) (new a) (new b)
  three_inside d a b h = (r.inside d h.0, r.inside a h.1, r.inside b h.2)

  renumbered_well_formed : (o : Order) → WellFormed o → WellFormed (renumbered new o)
  renumbered_well_formed (Constant d k) h = (r.inside d h.0, h.1)
  renumbered_well_formed (Sum d a b) h = three_inside d a b h
  renumbered_well_formed (Difference d a b) h = three_inside d a b h
  renumbered_well_formed (Product d a b) h = three_inside d a b h
  renumbered_well_formed (Less d a b) h = three_inside d a b h
  renumbered_well_formed (Equal d a b) h = three_inside d a b h

  all_renumbered : (os : List Order) → AllWellFormed os → AllWellFormed (map (renumbered new) os)
  all_renumbered [] h = tt
  all_renumbered (o ∷ os) h = (renumbered_well_formed o h.0, all_renumbered os h.1)

pub plan_by_well_formed : (by : Numbering) (P : Plan) (n m : ℕ) → bid_numbers * n ≤ cell_count → AllWellFormed (P n m) → AllWellFormed (plan_by by P n m)
unfolding column_plan
plan_by_well_formed Rows P n m room h = h
plan_by_well_formed Columns P n m room h = all_renumbered (columns_renumber n cell_count room) (P n m) h
