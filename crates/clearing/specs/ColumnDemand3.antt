-- What two books of equal counts share of the column plan, as one statement like demand 3's (document 02, request 6); that it holds for every two accepted
-- books is `column_demand_3`, in proofs/ColumnDemand3. Clearing and opening have no column form: what clearing leaves, the column plan leaves under the
-- renumbering, and the results, which stay in place, are opened as they are.
use Rattle.std.specs.Prelude.{ℕ, ◌≤◌, ◌<◌, ◌≡◌, List, length, take, ℤ, ◌≤ℤ◌}
use Rattle.definitions.specs.declared.Order.{Order}
use Rattle.definitions.specs.Limits.{cell_count}
use Rattle.definitions.specs.Book.{Book}
use Rattle.definitions.specs.Sheet.{sealed_sheet}
use Rattle.definitions.specs.Clearing.{Clearing, Feasible, welfare}
use Rattle.definitions.specs.Machine.{AllWellFormed, run_of}
use Rattle.definitions.specs.Bytes.{orders_bytes}
use Rattle.definitions.specs.Calls.{open_slice}
use Rattle.definitions.specs.Plan.{asked, ended, collected}
use Rattle.definitions.specs.Columns.{column_cell, column_plan, column_sealed_sheet, SameUnder}
use Rattle.definitions.specs.Outcome.{Outcome, result_of, order_limit, clear_sheet, clear_count, clear_welfare}
use Rattle.definitions.specs.RunningSum.{sales_welfare, clear_sales_welfare}
use Rattle.runner.specs.Runs.{RunsAs}
use Rattle.plan.specs.Plan.{plan}
use Rattle.clearing.specs.Demand3.{HoldsPrices}

-- One list of orders clears book A on the sheet by columns.
pub record ClearedByColumns (orders : List Order) (A : Book) : Type 0 where
  -- it is the column plan of A's counts, and what asking by columns at 0 and at each position handed back gives until the plan has ended, at its length
  pub is_plan : column_plan plan A.n A.m ≡ orders
  pub is_asked : (k : ℕ) → length orders < k → collected (asked (column_plan plan) A.n A.m) k 0 ≡ orders
  pub ends : asked (column_plan plan) A.n A.m (length orders) ≡ ended
  -- "After every order, counted from a sealed book, the two sheets hold the same values under that renumbering."
  pub follows : (k : ℕ) → SameUnder (column_cell A.n) (run_of (take k (plan A.n A.m)) (sealed_sheet A)) (run_of (take k orders) (column_sealed_sheet A))
  -- run from A's sheet sealed by columns it leaves A's best clearing, with flows and prices in their cells; input cells stay as sealed by columns, and
  -- scratch ends at 0
  pub outcome : Outcome A (column_sealed_sheet A) (run_of orders (column_sealed_sheet A))
  pub prices_given : HoldsPrices A (run_of orders (column_sealed_sheet A))
  -- the runner accepts the list's bytes on A's sheet sealed by columns, leaves that run's sheet and gives the list's length
  pub by_bytes : RunsAs (column_sealed_sheet A) orders
  -- clearing leaves the same values by rows, and opening treats both sheets alike
  pub sheet : (lent : List ℕ) → length lent ≡ cell_count → SameUnder (column_cell A.n) (clear_sheet plan A lent) (run_of orders (column_sealed_sheet A))
  pub opened : (lent : List ℕ) (results : List ℤ) → length lent ≡ cell_count
      → open_slice A.n A.m (run_of orders (column_sealed_sheet A)) results ≡ open_slice A.n A.m (clear_sheet plan A lent) results
  -- clearing's count is this list's length too
  pub count : clear_count plan A cell_count ≡ length orders
  -- the welfare that clearing gives, and that of the sales alone, are those of the amounts left, and no feasible clearing has a greater one
  pub welfare_left : clear_welfare plan A cell_count ≡ welfare A (result_of A (run_of orders (column_sealed_sheet A))).accepted
  pub sales_left : clear_sales_welfare plan A cell_count ≡ sales_welfare A (result_of A (run_of orders (column_sealed_sheet A))).accepted
  pub greatest_welfare : (d : Clearing) → Feasible A d → welfare A d.accepted ≤ℤ clear_welfare plan A cell_count

-- "What two equal-count books share is shown for the column plan too"
pub record OneColumnPlan (A B : Book) : Type 0 where
  pub orders : List Order
  -- orders of document 01's machine: kinds, cells and constants within their limits
  pub machine_orders : AllWellFormed orders
  pub first_book : ClearedByColumns orders A
  pub second_book : ClearedByColumns orders B
  pub same_bytes : orders_bytes (column_plan plan A.n A.m) ≡ orders_bytes (column_plan plan B.n B.m)
  pub same_count : clear_count plan A cell_count ≡ clear_count plan B cell_count
  pub limit : length orders ≤ order_limit A.n A.m
