-- The plan itself: the orders of the table, each name replaced by its cell's number, as a list of the machine's orders (`plan`).
use Rattle.std.specs.Prelude.{List, map, ℕ}
use Rattle.definitions.specs.declared.Order.{Order}
use Rattle.plan.specs.Orders.{OrderOn, order_of, renamed}
use Rattle.plan.specs.Names.{Name, rows_of, columns_of}
use Rattle.plan.specs.Layout.{base, address}
use Rattle.plan.specs.Phased.{flat}
use Rattle.plan.specs.Table.{table}

module _ (n m : ℕ) where
  -- where family k begins
  unfoldable pub from : ℕ → ℕ
  from k = base (rows_of n m) (columns_of n m) k

  -- the cell of a name
  abbrev pub cell_of : Name → ℕ
  cell_of c = address (rows_of n m) (columns_of n m) c

  -- the table's orders by cell numbers
  abbrev pub cell_orders : List (OrderOn ℕ)
  cell_orders = map (renamed cell_of) (flat (table n m))

  -- the plan: these as the machine's orders
  unfoldable pub plan : List Order
  plan = map order_of cell_orders
