-- What two books of equal counts share of the column plan (`column_demand_3`), by way of the row plan: after every order the two sheets hold the same values
-- under the renumbering, so what the one leaves the other does.
use Rattle.std.specs.Prelude.{◌≡◌, refl, ℕ, ◌*◌, ◌≤◌, ◌<◌, List, map, length, take, drop, ℤ}
use Rattle.std.proofs.Common.{sym, ap, ◌∙◌, subst, arith, ext_get_or, length-drop, get_or-drop}
use mathlib.Core.Path.{fun_ext}
use Rattle.definitions.specs.declared.Order.{Order}
use Rattle.definitions.specs.Limits.{bid_numbers, cell_count, modulus}
use Rattle.definitions.specs.Arithmetic.{reading}
use Rattle.definitions.specs.Book.{Book}
use Rattle.definitions.specs.Sheet.{sealed_sheet, first_result, result_count, amount_cell, flow_cell}
use Rattle.definitions.specs.Clearing.{Clearing, Best, Permitted}
use Rattle.definitions.specs.PoolPrice.{pool_price, price_residue, hundredths_residue, presence}
use Rattle.definitions.specs.Machine.{IsSheet, cell, run_of, AllWellFormed}
use Rattle.definitions.specs.Bytes.{orders_bytes}
use Rattle.definitions.specs.Calls.{AcceptedBook, opened_results, open_refusal, open_slice}
use Rattle.definitions.specs.Columns.{column_cell, column_plan, column_sealed_sheet, SameUnder}
use Rattle.definitions.specs.Outcome.{Outcome, order_limit, result_of, plan_run}
use Rattle.laws.specs.AcceptedBook.{Sound, accepted_sound}
use Rattle.judging.specs.Cells.{sheet_accepted}
use Rattle.machine.specs.Run.{run_sheet_lem}
use Rattle.runner.specs.Runs.{orders_bytes_run}
use Rattle.columns.specs.declared.Numbering.TheVariants.{Columns}
use Rattle.columns.specs.Renumbering.{Alike, run_renumbered}
use Rattle.columns.specs.Cells.{row_cell, column_kept, columns_renumber}
use Rattle.columns.specs.Plans.{plan_by_length, plan_by_well_formed}
use Rattle.plan.specs.Plan.{plan}
use Rattle.plan.proofs.PlanOrders.{plan_length_limit}
use Rattle.plan.proofs.Asking.{asked_at_end}
use Rattle.plan.proofs.Collected.{collected_plan}
use Rattle.plan.proofs.SealedSheet.{sealed_is_sheet}
use Rattle.plan.proofs.AnExample.{three_pools}
use Rattle.clearing.specs.PlanClears.{plan_outcome, three_pools_accepted}
use Rattle.clearing.specs.ColumnDemand3.{ClearedByColumns, OneColumnPlan}
use Rattle.clearing.proofs.Demand3.{counts, plan_orders_of, prices_held, cleared_by_plan}
use Rattle.clearing.proofs.SealedColumns.{room, sealed_alike, after_every_order}

module _ (A : Book) (accepted : AcceptedBook A) where
  sound : Sound A
  sound = accepted_sound A accepted

  abbrev orders : List Order
  orders = column_plan plan A.n A.m

  -- what the row plan leaves, and what the column plan leaves
  abbrev by_rows : List ℕ
  by_rows = run_of (plan A.n A.m) (sealed_sheet A)

  abbrev by_columns : List ℕ
  by_columns = run_of orders (column_sealed_sheet A)

  left_alike : Alike cell_count (column_cell A.n) by_rows by_columns
  unfolding column_plan
  left_alike = run_renumbered (columns_renumber A.n cell_count (room A sound)) (plan A.n A.m) (sealed_sheet A) (column_sealed_sheet A) (sealed_alike A sound)

  -- behind the bids a cell holds the same on both
  in_place : (c : ℕ) → bid_numbers * A.n ≤ c → cell by_columns c ≡ cell by_rows c
  in_place c h = ap (cell by_columns) (sym (column_kept A.n c h)) ∙ left_alike.same c

  same_result : result_of A by_columns ≡ result_of A by_rows
  same_result =
      let amounts : (λ i. cell by_columns (amount_cell A.n A.m i)) ≡ (λ i. cell by_rows (amount_cell A.n A.m i)) = fun_ext (λ i. in_place _ (omega arith)) in
      let flows : (λ a b. cell by_columns (flow_cell A.n A.m a b)) ≡ (λ a b. cell by_rows (flow_cell A.n A.m a b)) = fun_ext (λ a. fun_ext (λ b. in_place _ (omega arith))) in
      rw (amounts, flows) refl

  -- its input cells are as sealed by columns: the cells below the results are renumbered among themselves
  inputs_kept : Outcome A (sealed_sheet A) by_rows → (c : ℕ) → c < first_result A.n A.m → cell by_columns c ≡ cell (column_sealed_sheet A) c
  inputs_kept outcome c l =
      let r = columns_renumber A.n (first_result A.n A.m) (omega arith) in
      let old : ℕ = row_cell A.n c in
      let moved : column_cell A.n old ≡ c = r.redone c in
      ap (cell by_columns) (sym moved)
      ∙ left_alike.same old
      ∙ outcome.inputs old (r.back_inside c l)
      ∙ sym ((sealed_alike A sound).same old)
      ∙ ap (cell (column_sealed_sheet A)) moved

  column_outcome : Outcome A (sealed_sheet A) by_rows → Outcome A (column_sealed_sheet A) by_columns
  column_outcome outcome =
      let same_price : (p : ℕ) → pool_price A (result_of A by_rows) p ≡ pool_price A (result_of A by_columns) p
      = λ p. ap (λ (c : Clearing). pool_price A c p) (sym same_result) in
      record {
        cells = left_alike.second;
        inputs = inputs_kept outcome;
        best = subst (Best A) (sym same_result) outcome.best;
        permitted = subst (Permitted A) (sym same_result) outcome.permitted;
        prices = λ p l. in_place _ (omega arith) ∙ outcome.prices p l ∙ ap price_residue (same_price p);
        hundredths = λ p l. in_place _ (omega arith) ∙ outcome.hundredths p l ∙ ap hundredths_residue (same_price p);
        presences = λ p l. in_place _ (omega arith) ∙ outcome.presences p l ∙ ap presence (same_price p);
        scratch = λ c l. in_place c (omega arith) ∙ outcome.scratch c l;
      }

  orders_well_formed : AllWellFormed orders
  orders_well_formed = plan_by_well_formed Columns plan A.n A.m (room A sound) (plan_orders_of A accepted)

  as_long : length orders ≡ length (plan A.n A.m)
  as_long = plan_by_length plan A.n A.m Columns

  -- the sheet sealed by columns is a sheet
  cell_below : (c : ℕ) → cell (column_sealed_sheet A) c < modulus
  cell_below c =
      let r = columns_renumber A.n cell_count (room A sound) in
      let old : ℕ = row_cell A.n c in
      omega (arith, (sealed_is_sheet A sound).below old, (sealed_alike A sound).same old, ap (cell (column_sealed_sheet A)) (r.redone c))

  column_sealed_is_sheet : IsSheet (column_sealed_sheet A)
  column_sealed_is_sheet = record { cells = (sealed_alike A sound).second; below = cell_below }

  -- so the results are opened as they are by rows
  result_cells : drop (first_result A.n A.m) by_columns ≡ drop (first_result A.n A.m) by_rows
  result_cells =
      ext_get_or 0 (drop (first_result A.n A.m) by_columns) (drop (first_result A.n A.m) by_rows)
      (omega (arith, length-drop (first_result A.n A.m) by_columns, length-drop (first_result A.n A.m) by_rows, left_alike.first, left_alike.second))
      (λ i l. get_or-drop (first_result A.n A.m) by_columns i 0 ∙ in_place _ (omega arith) ∙ sym (get_or-drop (first_result A.n A.m) by_rows i 0))

  same_opened : opened_results A.n A.m by_columns ≡ opened_results A.n A.m by_rows
  unfolding opened_results
  same_opened = ap (λ (cells : List ℕ). map reading (take (result_count A.n A.m) cells)) result_cells

  -- neither sheet is refused by opening for a cell, so whatever slice is lent holds the same after it
  same_slice : (results : List ℤ) → open_slice A.n A.m by_columns results ≡ open_slice A.n A.m by_rows results
  unfolding open_slice open_refusal
  same_slice results =
      let rows = run_sheet_lem (plan A.n A.m) (sealed_sheet A) (sealed_is_sheet A sound) (plan_orders_of A accepted) in
      let columns = run_sheet_lem orders (column_sealed_sheet A) column_sealed_is_sheet orders_well_formed in
      rw (rows.cells, columns.cells, sheet_accepted by_rows rows, sheet_accepted by_columns columns, same_opened) refl

  pub cleared_by_columns : ClearedByColumns orders A
  unfolding column_plan plan_run
  cleared_by_columns =
      let cleared = cleared_by_plan A accepted in
      let outcome = column_outcome (plan_outcome A accepted) in
      record {
        is_plan = refl;
        is_asked = λ k l. collected_plan (column_plan plan) A.n A.m (counts A accepted) k l;
        ends = asked_at_end (column_plan plan) A.n A.m (length orders) (counts A accepted) refl;
        follows = λ k. after_every_order A sound (plan A.n A.m) k;
        outcome = outcome;
        prices_given = prices_held A accepted (column_sealed_sheet A) by_columns outcome;
        by_bytes = orders_bytes_run (column_sealed_sheet A) orders column_sealed_is_sheet orders_well_formed;
        sheet = λ lent e. subst (λ (s : List ℕ). SameUnder (column_cell A.n) s by_columns) (sym (cleared.sheet lent e)) left_alike.same;
        opened = λ lent results e. same_slice results ∙ ap (λ (s : List ℕ). open_slice A.n A.m s results) (sym (cleared.sheet lent e));
        count = cleared.count ∙ sym as_long;
        welfare_left = cleared.welfare_given (result_of A by_columns) outcome.best;
        sales_left = cleared.sales_given (result_of A by_columns) outcome.best;
        greatest_welfare = cleared.greatest_welfare;
      }

-- a book is cleared by the column plan of another of the same counts
of_equal_counts : (A B : Book) → AcceptedBook B → A.n ≡ B.n → A.m ≡ B.m → ClearedByColumns (column_plan plan A.n A.m) B
of_equal_counts A B accepted n m = rw (n, m) (cleared_by_columns B accepted)

pub column_demand_3 : (A B : Book) → AcceptedBook A → AcceptedBook B → A.n ≡ B.n → A.m ≡ B.m → OneColumnPlan A B
column_demand_3 A B a b n m =
    let of-A = cleared_by_columns A a in
    let of-B = of_equal_counts A B b n m in
    let sound = accepted_sound A a in
    record {
      orders = column_plan plan A.n A.m;
      machine_orders = orders_well_formed A a;
      first_book = of-A;
      second_book = of-B;
      same_bytes = ap orders_bytes (sym of-B.is_plan);
      same_count = of-A.count ∙ sym of-B.count;
      limit = subst (λ (k : ℕ). k ≤ order_limit A.n A.m) (sym (as_long A a)) (plan_length_limit A.n A.m sound.bids sound.pools_positive sound.pools);
    }

-- an accepted book is all that it asks for
example : OneColumnPlan three_pools three_pools
example = column_demand_3 three_pools three_pools three_pools_accepted three_pools_accepted refl refl
