-- Feasible clearings, welfare, the merit order, the best clearing and its flows (document 01, 'The best clearing'), by prices in hundredths (document 02,
-- request 5).
-- Nothing here says how a clearing is found.
use Rattle.std.specs.Prelude.{ℕ, ◌+◌, ◌-◌, ◌≤◌, ◌<◌, ◌≡◌, Bool, true, cond, ◌&&◌, ◌||◌, ltb, ℤ, pos, ◌-ℤ◌, ◌*ℤ◌}
use Rattle.std.specs.Int.Signed.{lt_z}
use Rattle.definitions.specs.Arithmetic.{on, sum_to, sum_z, eq_z}
use Rattle.definitions.specs.Book.{Book, price, purchase, sale, size, in_pool, capacity}

-- A clearing: the accepted amount of each bid, and the flow on each line a to b. "Amounts and flows are whole numbers."
pub record Clearing : Type 0 where
  pub accepted : ℕ → ℕ
  pub flow : ℕ → ℕ → ℕ

-- "In each pool, accepted sales plus inflow equal accepted purchases plus outflow": pool p's accepted sales
unfoldable pub sold : Book → (ℕ → ℕ) → ℕ → ℕ
sold B accepted p = sum_to B.n (λ i. on (sale B i && in_pool B p i) (accepted i))

-- its accepted purchases
unfoldable pub bought : Book → (ℕ → ℕ) → ℕ → ℕ
bought B accepted p = sum_to B.n (λ i. on (purchase B i && in_pool B p i) (accepted i))

-- its inflow: the flows on the lines a to p
unfoldable pub inflow : Book → (ℕ → ℕ → ℕ) → ℕ → ℕ
inflow B flow p = sum_to B.m (λ a. flow a p)

-- its outflow: the flows on the lines p to b
unfoldable pub outflow : Book → (ℕ → ℕ → ℕ) → ℕ → ℕ
outflow B flow p = sum_to B.m (λ b. flow p b)

-- "The accepted amount of a bid lies between 0 and the size of its quantity. A flow lies between 0 and its capacity.
-- In each pool, accepted sales plus inflow equal accepted purchases plus outflow. That is a feasible clearing."
-- Formulas (4), (3) and (2) of document 003, in this order.
pub record Feasible (B : Book) (c : Clearing) : Type 0 where
  pub amounts : (i : ℕ) → i < B.n → c.accepted i ≤ size B i
  pub flows : (a b : ℕ) → a < B.m → b < B.m → c.flow a b ≤ capacity B a b
  pub balance : (p : ℕ) → p < B.m → sold B c.accepted p + inflow B c.flow p ≡ bought B c.accepted p + outflow B c.flow p

-- price × accepted of bid i
abbrev pub value : Book → (ℕ → ℕ) → ℕ → ℤ
value B accepted i = price B i *ℤ pos (accepted i)

-- "Its welfare is the sum of price × accepted over purchases less that over sales." Formula (1) of document 003. "welfare is in hundredths".
unfoldable pub welfare : Book → (ℕ → ℕ) → ℤ
welfare B accepted =
    sum_z B.n (λ i. cond (purchase B i) (value B accepted i) (pos 0))
    -ℤ sum_z B.n (λ i. cond (sale B i) (value B accepted i) (pos 0))

-- Bid j comes before bid i. "Merit order: lower limit price first; at equal price sales before purchases;
-- equal sales by lower bid number; equal purchases by higher bid number." "Prices are equal only if both parts are": a theorem,
-- `equal_prices` in theory.
unfoldable pub before : Book → (j i : ℕ) → Bool
before B j i =
    lt_z (price B j) (price B i)
    || (eq_z (price B j) (price B i)
    && ((sale B j && purchase B i)
    || ((sale B j && (sale B i && ltb j i))
    || (purchase B j && (purchase B i && ltb i j)))))

-- "The used amount of a sale is its accepted amount, of a purchase its quantity less its accepted amount."
unfoldable pub used : Book → (ℕ → ℕ) → ℕ → ℕ
used B accepted i = cond (sale B i) (accepted i) (size B i - accepted i)

-- Amounts y come no later than amounts x in dictionary order, both listed in merit order:
-- they are equal, or y is less at some bid and they are equal at every bid before it.
pub data NoGreater (B : Book) (y x : ℕ → ℕ) : Type 0 where
  equal : ((i : ℕ) → i < B.n → y i ≡ x i) → NoGreater B y x
  less : (i : ℕ) → i < B.n → y i < x i → ((j : ℕ) → j < B.n → before B j i ≡ true → y j ≡ x j) → NoGreater B y x

-- "The best clearing's used amounts, listed in merit order, are the greatest in dictionary order among all feasible clearings."
pub record Best (B : Book) (c : Clearing) : Type 0 where
  pub feasible : Feasible B c  -- it is one of them
  pub greatest : (d : Clearing) → Feasible B d → NoGreater B (used B d.accepted) (used B c.accepted)

-- "Flows are free, save that the clearing is feasible with them and no pair of pools ships both ways."
pub record Permitted (B : Book) (c : Clearing) : Type 0 where
  pub feasible : Feasible B c
  pub one_way : (a b : ℕ) → a < B.m → b < B.m → 0 < c.flow a b → c.flow b a ≡ 0
