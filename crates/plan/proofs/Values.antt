-- What each family of cells holds in the end: a number of the book or one of the theory's closed forms (`value_of`).
use Rattle.std.specs.Prelude.{ℕ, zero, suc, ◌+◌, ◌*◌, ◌/◌, ◌%◌, ltb, eqb}
use Rattle.definitions.specs.Limits.{whole_limit, hundred}
use Rattle.definitions.specs.Arithmetic.{on, residue}
use Rattle.definitions.specs.Book.{Book, pool, whole_price, quantity, hundredths, size, capacity}
pub use Rattle.laws.specs.AcceptedBook.{raised_whole, raised_price}
use Rattle.laws.specs.AcceptedBook.{pool_index}
use Rattle.plan.proofs.Holds.{Tables}
use Rattle.plan.specs.Names.{Family, Bids, Capacities, Amounts, Flows, Prices, Temporaries, ZeroCells, Units, Hundreds, Shifts, Tops, PoolNumbers, Sides, Sizes, RaisedWholes, RaisedPrices, Doubles, Keys, Nexts, Memberships, PoolSizes, Demands, Subsets, Cuts, SizesBefore, RanksBefore, SizesWith, RanksWith, Uses, Placements, Slacks, SlackTests, ReachTests, Margins, PoolMargins, BestMargins, PriceTests, PoolWholes, rows_of, columns_of}
pub use Rattle.theory.specs.ClosedForms.{top, side, key, pool_size, taken_of, line_flow, unparted, price_margin, has_price, closed_price, closed_hundredths, closed_presence}
unfoldable pub use Rattle.theory.specs.ClosedForms.{demand, cut, size_before, size_with, rank, used_amount, accepted_amount, placement, slack, rest_of, flow_of, slack_after, reached, margin, pool_margin, best_margin, pool_whole}

module _ (B : Book) where
  -- the bid table as sealed
  abbrev pub bid_cell : (i j : ℕ) → ℕ
  bid_cell i zero = residue (pool B i)
  bid_cell i (suc zero) = residue (whole_price B i)
  bid_cell i (suc (suc zero)) = residue (quantity B i)
  bid_cell i (suc (suc (suc j))) = residue (hundredths B i)

  -- a pool's three cells, its price, its hundredths and its presence
  abbrev pub price_cells : (p j : ℕ) → ℕ
  price_cells p zero = closed_price B p
  price_cells p (suc zero) = closed_hundredths B p
  price_cells p (suc (suc j)) = closed_presence B p

  -- what each family holds in the end; temporaries and sums over subsets are not kept
  abbrev pub value_of : Family → (i j : ℕ) → ℕ
  value_of Bids i j = bid_cell i j
  value_of Capacities a b = capacity B a b
  value_of Amounts i j = accepted_amount B i
  value_of Flows l j = line_flow B l
  value_of Prices p j = price_cells p j
  value_of Temporaries k j = 0
  value_of ZeroCells i j = 0
  value_of Units i j = 1
  value_of Hundreds i j = hundred
  value_of Shifts i j = whole_limit
  value_of Tops i j = top
  value_of PoolNumbers p j = suc p
  value_of Sides i j = side B i
  value_of Sizes i j = size B i
  value_of RaisedWholes i j = raised_whole B i
  value_of RaisedPrices i j = raised_price B i
  value_of Doubles i j = 2 * raised_price B i
  value_of Keys i j = key B i
  value_of Nexts i j = 2 * raised_price B i + 1
  value_of Memberships i p = on (eqb (pool_index B i) p) 1
  value_of PoolSizes i p = pool_size B i p
  value_of Demands p j = demand B p
  value_of Subsets S j = 0
  value_of Cuts S j = cut B S
  value_of SizesBefore i p = size_before B i p
  value_of RanksBefore i j = rank B (size_before B i)
  value_of SizesWith i p = size_with B i p
  value_of RanksWith i j = rank B (size_with B i)
  value_of Uses i j = used_amount B i
  value_of Placements p j = placement B p
  value_of Slacks S j = slack B S
  value_of SlackTests S j = on (ltb 0 (slack B S)) 1
  value_of ReachTests l j = on (reached B (l / B.m) (l % B.m)) 1
  value_of Margins i j = margin B i
  value_of PoolMargins p j = pool_margin B p
  value_of BestMargins p j = best_margin B p
  value_of PriceTests i p = on (has_price B i p) 1
  value_of PoolWholes p j = pool_whole B p

  -- the families with their rows, columns and numbers, for book B
  abbrev pub cell_tables : Tables
  cell_tables = record { rows = rows_of B.n B.m; columns = columns_of B.n B.m; value = value_of }
