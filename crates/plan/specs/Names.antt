-- The families of cells: where each stands on the sheet, how many rows and columns it has (`family_place`), and the names of its cells.
-- What each holds is said where the code declares them, and in Values.
use Rattle.std.specs.Prelude.{ℕ, ◌*◌, ◌^◌, Bool, ◌&&◌, List, [], ◌∷◌, eqb, get_or}
use Rattle.definitions.specs.Limits.{bid_numbers, price_place, quantity_place, hundredths_place, pool_results, hundredths_result, presence_result}
use Rattle.plan.specs.declared.Place.{Place}
pub use Rattle.plan.specs.declared.Family.{Family}
pub use Rattle.plan.specs.declared.Family.TheVariants.{Bids, Capacities, Amounts, Flows, Prices, Temporaries, ZeroCells, Units, Hundreds, Shifts, Tops, PoolNumbers, Sides, Sizes, RaisedWholes, RaisedPrices, Doubles, Keys, Nexts, Memberships, PoolSizes, Demands, Subsets, Cuts, SizesBefore, RanksBefore, SizesWith, RanksWith, Uses, Placements, Slacks, SlackTests, ReachTests, Margins, PoolMargins, BestMargins, PriceTests, PoolWholes}

-- the place of each family on the sheet, for n bids, m pools, and so many lines and sets of pools: its number, its rows and its columns
abbrev pub family_place : (n m lines sets : ℕ) → Family → Place
family_place n m lines sets Bids = (0, n, bid_numbers)
family_place n m lines sets Capacities = (1, m, m)
family_place n m lines sets Amounts = (2, n, 1)
family_place n m lines sets Flows = (3, lines, 1)
family_place n m lines sets Prices = (4, m, pool_results)
family_place n m lines sets Temporaries = (5, 3, 1)
family_place n m lines sets ZeroCells = (6, 1, 1)
family_place n m lines sets Units = (7, 1, 1)
family_place n m lines sets Hundreds = (8, 1, 1)
family_place n m lines sets Shifts = (9, 1, 1)
family_place n m lines sets Tops = (10, 1, 1)
family_place n m lines sets PoolNumbers = (11, m, 1)
family_place n m lines sets Sides = (12, n, 1)
family_place n m lines sets Sizes = (13, n, 1)
family_place n m lines sets RaisedWholes = (14, n, 1)
family_place n m lines sets RaisedPrices = (15, n, 1)
family_place n m lines sets Doubles = (16, n, 1)
family_place n m lines sets Keys = (17, n, 1)
family_place n m lines sets Nexts = (18, n, 1)
family_place n m lines sets Memberships = (19, n, m)
family_place n m lines sets PoolSizes = (20, n, m)
family_place n m lines sets Demands = (21, m, 1)
family_place n m lines sets Subsets = (22, sets, 1)
family_place n m lines sets Cuts = (23, sets, 1)
family_place n m lines sets SizesBefore = (24, n, m)
family_place n m lines sets RanksBefore = (25, n, 1)
family_place n m lines sets SizesWith = (26, n, m)
family_place n m lines sets RanksWith = (27, n, 1)
family_place n m lines sets Uses = (28, n, 1)
family_place n m lines sets Placements = (29, m, 1)
family_place n m lines sets Slacks = (30, sets, 1)
family_place n m lines sets SlackTests = (31, sets, 1)
family_place n m lines sets ReachTests = (32, lines, 1)
family_place n m lines sets Margins = (33, n, 1)
family_place n m lines sets PoolMargins = (34, m, 1)
family_place n m lines sets BestMargins = (35, m, 1)
family_place n m lines sets PriceTests = (36, n, m)
family_place n m lines sets PoolWholes = (37, m, 1)

-- the number of a family
abbrev pub number : Family → ℕ
number f = (family_place 0 0 0 0 f).0

-- its rows
abbrev pub rows_of : (n m : ℕ) → Family → ℕ
rows_of n m f = (family_place n m (m * m) (2 ^ m) f).1

-- its columns
abbrev pub columns_of : (n m : ℕ) → Family → ℕ
columns_of n m f = (family_place n m (m * m) (2 ^ m) f).2

-- the families by their numbers
abbrev pub families : List Family
families =
    Bids ∷ Capacities ∷ Amounts ∷ Flows ∷ Prices ∷ Temporaries ∷ ZeroCells ∷ Units ∷ Hundreds ∷ Shifts
    ∷ Tops ∷ PoolNumbers ∷ Sides ∷ Sizes ∷ RaisedWholes ∷ RaisedPrices ∷ Doubles ∷ Keys ∷ Nexts ∷ Memberships
    ∷ PoolSizes ∷ Demands ∷ Subsets ∷ Cuts ∷ SizesBefore ∷ RanksBefore ∷ SizesWith ∷ RanksWith ∷ Uses ∷ Placements
    ∷ Slacks ∷ SlackTests ∷ ReachTests ∷ Margins ∷ PoolMargins ∷ BestMargins ∷ PriceTests ∷ PoolWholes ∷ []

-- how many there are
abbrev pub family_count : ℕ
family_count = 38

-- family k
abbrev pub family_at : ℕ → Family
family_at k = get_or families k Bids

-- ---- names

-- a name: a family of cells, and two indices in it
pub data Name : Type 0 where
  at : Family → ℕ → ℕ → Name

-- the family of a name
abbrev pub family : Name → Family
family (at t i j) = t

-- its row there
abbrev pub row : Name → ℕ
row (at t i j) = i

-- are two names the same?
abbrev pub same : Name → Name → Bool
same (at s a b) (at t c d) = eqb (number s) (number t) && (eqb a c && eqb b d)

-- ---- inputs and results

-- the pool of bid i, counted from 1
abbrev pub Pool : ℕ → Name
Pool i = at Bids i 0

-- the whole part of the price of bid i
abbrev pub WholePrice : ℕ → Name
WholePrice i = at Bids i price_place

-- the quantity of bid i: above 0 it is a purchase, else a sale
abbrev pub Quantity : ℕ → Name
Quantity i = at Bids i quantity_place

-- the hundredths of bid i
abbrev pub Hundredths : ℕ → Name
Hundredths i = at Bids i hundredths_place

-- the capacity of the line from pool a to pool b
abbrev pub Capacity : ℕ → ℕ → Name
Capacity a b = at Capacities a b

-- the accepted amount of bid i
abbrev pub Amount : ℕ → Name
Amount i = at Amounts i 0

-- the flow of line l, which goes from pool l / m to pool l % m
abbrev pub Flow : ℕ → Name
Flow l = at Flows l 0

-- the whole part of the price of pool p, 0 if it has none
abbrev pub PriceOfPool : ℕ → Name
PriceOfPool p = at Prices p 0

-- its hundredths, 0 if it has none
abbrev pub HundredthsOfPool : ℕ → Name
HundredthsOfPool p = at Prices p hundredths_result

-- 1 if pool p has a price, else 0
abbrev pub Presence : ℕ → Name
Presence p = at Prices p presence_result

-- ---- scratch

-- number k of a block's own cells
abbrev pub Temporary : ℕ → Name
Temporary k = at Temporaries k 0

-- 0
abbrev pub ZeroCell : Name
ZeroCell = at ZeroCells 0 0

-- 1
abbrev pub One : Name
One = at Units 0 0

-- 100
abbrev pub Hundred : Name
Hundred = at Hundreds 0 0

-- the limit of the whole parts of prices
abbrev pub Shift : Name
Shift = at Shifts 0 0

-- what a raised price and the margin of a bid that is not used up add up to
abbrev pub Top : Name
Top = at Tops 0 0

-- p + 1
abbrev pub PoolNumber : ℕ → Name
PoolNumber p = at PoolNumbers p 0

-- 1 if bid i is a purchase, else 0
abbrev pub Side : ℕ → Name
Side i = at Sides i 0

-- the size of bid i: its quantity without the sign
abbrev pub Size : ℕ → Name
Size i = at Sizes i 0

-- the whole part of the price of bid i, and the shift
abbrev pub RaisedWhole : ℕ → Name
RaisedWhole i = at RaisedWholes i 0

-- 100 times that, and the hundredths of bid i
abbrev pub RaisedPrice : ℕ → Name
RaisedPrice i = at RaisedPrices i 0

-- twice the raised price of bid i
abbrev pub Double : ℕ → Name
Double i = at Doubles i 0

-- twice the raised price of bid i, and 1 more for a purchase
abbrev pub Key : ℕ → Name
Key i = at Keys i 0

-- twice the raised price of bid i, and 1 more
abbrev pub Next : ℕ → Name
Next i = at Nexts i 0

-- 1 if bid i is in pool p, else 0
abbrev pub Membership : ℕ → ℕ → Name
Membership i p = at Memberships i p

-- the size of bid i if it is in pool p, else 0
abbrev pub PoolSize : ℕ → ℕ → Name
PoolSize i p = at PoolSizes i p

-- the sizes of the purchases in pool p
abbrev pub Demand : ℕ → Name
Demand p = at Demands p 0

-- a sum over the pools of set S: of demands, of sizes or of placements
abbrev pub Subset : ℕ → Name
Subset S = at Subsets S 0

-- the demands in set S and the capacities of the lines that leave it
abbrev pub Cut : ℕ → Name
Cut S = at Cuts S 0

-- the sizes in pool p of the bids before bid i
abbrev pub SizeBefore : ℕ → ℕ → Name
SizeBefore i p = at SizesBefore i p

-- the rank of the bids before bid i: the most that can be used of them
abbrev pub RankBefore : ℕ → Name
RankBefore i = at RanksBefore i 0

-- the sizes in pool p of bid i and the bids before it
abbrev pub SizeWith : ℕ → ℕ → Name
SizeWith i p = at SizesWith i p

-- the rank of bid i and the bids before it
abbrev pub RankWith : ℕ → Name
RankWith i = at RanksWith i 0

-- the used amount of bid i: the difference of its two ranks
abbrev pub Used : ℕ → Name
Used i = at Uses i 0

-- the used amounts of the bids in pool p
abbrev pub Placement : ℕ → Name
Placement p = at Placements p 0

-- the cut of set S less what is used in it and what the lines so far take
abbrev pub Slack : ℕ → Name
Slack S = at Slacks S 0

-- 1 if set S has slack before the lines take any, else 0
abbrev pub SlackTest : ℕ → Name
SlackTest S = at SlackTests S 0

-- 1 if pool l / m reaches pool l % m, else 0
abbrev pub ReachTest : ℕ → Name
ReachTest l = at ReachTests l 0

-- the limit of prices in hundredths and 1, less the price of bid i; 0 if the bid is used up
abbrev pub Margin : ℕ → Name
Margin i = at Margins i 0

-- the greatest margin of the bids in pool p, 0 if none
abbrev pub PoolMargin : ℕ → Name
PoolMargin p = at PoolMargins p 0

-- the greatest of the pools that reach pool p, 0 if none
abbrev pub BestMargin : ℕ → Name
BestMargin p = at BestMargins p 0

-- 1 if bid i has the best margin of pool p, and so its price if the pool has one, else 0
abbrev pub PriceTest : ℕ → ℕ → Name
PriceTest i p = at PriceTests i p

-- the whole part, and the shift, of the price of pool p, if it has one
abbrev pub PoolWhole : ℕ → Name
PoolWhole p = at PoolWholes p 0
