-- Demand 3 as one statement about two books and the whole list of orders; that it holds for every two accepted books of equal counts is `demand_3`, in
-- proofs/Demand3.
use Rattle.std.specs.Prelude.{ℕ, ◌≤◌, ◌<◌, ◌≡◌, List, length, ◌≤ℤ◌}
use Rattle.definitions.specs.declared.Order.{Order}
use Rattle.definitions.specs.Limits.{cell_count}
use Rattle.definitions.specs.Book.{Book}
use Rattle.definitions.specs.Sheet.{sealed_sheet, price_cell, hundredths_cell, presence_cell}
use Rattle.definitions.specs.Clearing.{Clearing, Feasible, Best, welfare}
use Rattle.definitions.specs.PoolPrice.{pool_price, price_residue, hundredths_residue, presence}
use Rattle.definitions.specs.Machine.{AllWellFormed, cell, run_of}
use Rattle.definitions.specs.Bytes.{orders_bytes}
use Rattle.definitions.specs.Plan.{asked, ended, collected}
use Rattle.definitions.specs.Outcome.{Outcome, order_limit, clear_sheet, clear_count, clear_welfare}
use Rattle.definitions.specs.RunningSum.{sales_welfare, clear_sales_welfare}
use Rattle.runner.specs.Runs.{RunsAs}
use Rattle.plan.specs.Plan.{plan}

-- the prices that a sheet holds are those of each best clearing, whichever flows were chosen (document 02, request 4)
abbrev pub HoldsPrices : Book → List ℕ → Type 0
HoldsPrices A s = (c : Clearing) → Best A c → (p : ℕ) → p < A.m
    → (cell s (price_cell A.n A.m p) ≡ price_residue (pool_price A c p))
    × (cell s (hundredths_cell A.n A.m p) ≡ hundredths_residue (pool_price A c p))
    × (cell s (presence_cell A.n A.m p) ≡ presence (pool_price A c p))

-- One list of orders clears book A.
pub record ClearedBy (orders : List Order) (A : Book) : Type 0 where
  -- it is the plan of A's counts, and what asking at 0 and at each position handed back gives until the plan has ended, which is at its length
  pub is_plan : plan A.n A.m ≡ orders
  pub is_asked : (k : ℕ) → length orders < k → collected (asked plan A.n A.m) k 0 ≡ orders
  pub ends : asked plan A.n A.m (length orders) ≡ ended
  -- "Run by the machine of document 01, this plan turns A's sealed sheet into A's best clearing .. with flows and prices by document 01 in
  -- their cells; input cells stay as sealed, and every scratch cell ends at 0."
  pub outcome : Outcome A (sealed_sheet A) (run_of orders (sealed_sheet A))
  -- the runner accepts the list's bytes on A's sealed sheet, leaves that run's sheet and gives the list's length
  pub by_bytes : RunsAs (sealed_sheet A) orders
  -- "Clearing either book, whatever the lent sheet held before, leaves exactly the sheet that this run gives for that book"
  pub sheet : (lent : List ℕ) → length lent ≡ cell_count → clear_sheet plan A lent ≡ run_of orders (sealed_sheet A)
  -- "This count is the number of orders in the plan"
  pub count : clear_count plan A cell_count ≡ length orders
  -- the welfare given is that of each best clearing, and no feasible clearing has a greater one
  pub welfare_given : (c : Clearing) → Best A c → clear_welfare plan A cell_count ≡ welfare A c.accepted
  pub greatest_welfare : (d : Clearing) → Feasible A d → welfare A d.accepted ≤ℤ clear_welfare plan A cell_count
  -- the welfare of the sales alone that is given is that of each best clearing (document 02, request 3)
  pub sales_given : (c : Clearing) → Best A c → clear_sales_welfare plan A cell_count ≡ sales_welfare A c.accepted
  -- the prices left are those of each best clearing
  pub prices_given : HoldsPrices A (run_of orders (sealed_sheet A))

-- "Take every two books A and B that sealing accepts, with equal bid counts and equal pool counts. .. the plan is the same list of orders for
-- both, byte for byte. .. and reports the same count for both. .. for n bids and m pools it is at most n × (100 × n + 40 × (m+1)^6) + 10,000", in
-- which "100 × n becomes 200 × n" (document 02, request 5).
pub record OnePlan (A B : Book) : Type 0 where
  pub orders : List Order
  -- orders of document 01's machine: kinds, cells and constants within their limits
  pub machine_orders : AllWellFormed orders
  pub first_book : ClearedBy orders A
  pub second_book : ClearedBy orders B
  pub same_bytes : orders_bytes (plan A.n A.m) ≡ orders_bytes (plan B.n B.m)
  pub same_count : clear_count plan A cell_count ≡ clear_count plan B cell_count
  pub limit : length orders ≤ order_limit A.n A.m
