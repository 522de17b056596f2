-- The plan's smallest blocks of orders, each from the numbers of its bids, pools and sets only; the table puts them together.
use Rattle.std.specs.Prelude.{Bool, true, false, cond, List, [], ◌∷◌, ℕ, suc, ◌+◌, ◌*◌, ltb}
use Rattle.definitions.specs.Limits.{whole_limit, hundred, price_limit, greatest_positive}
use Rattle.plan.specs.Orders.{OrderOn, constant, sum, difference, product, less, equal}
use Rattle.plan.specs.Names.{Name, at, Units, Hundreds, Shifts, Tops, Pool, WholePrice, Quantity, Hundredths, Capacity, Amount, Flow, PriceOfPool, HundredthsOfPool, Presence, Temporary, ZeroCell, One, Hundred, Shift, Top, PoolNumber, Side, Size, RaisedWhole, RaisedPrice, Double, Key, Next, Membership, PoolSize, Demand, Subset, Cut, SizeBefore, RankBefore, SizeWith, RankWith, Used, Placement, Slack, SlackTest, ReachTest, Margin, BestMargin, PriceTest, PoolWhole}
use Rattle.plan.specs.Subsets.{leaves, complement}
use Rattle.plan.specs.Running.{lowered, raised}

-- orders over names, one after another
abbrev pub Block : Type 0
Block = List (OrderOn Name)

-- ---- constants

-- the number 1
abbrev pub unit_block : ℕ → Block
unit_block i = constant (at Units i 0) 1 ∷ []

-- the number 100
abbrev pub hundred_block : ℕ → Block
hundred_block i = constant (at Hundreds i 0) hundred ∷ []

-- the limit of the whole parts of prices
abbrev pub shift_block : ℕ → Block
shift_block i = constant (at Shifts i 0) whole_limit ∷ []

-- what a raised price and its margin add up to
abbrev pub top_block : ℕ → Block
top_block i = constant (at Tops i 0) (2 * price_limit + 1) ∷ []

-- the number of pool p in a book
abbrev pub pool_number_block : ℕ → Block
pool_number_block p = constant (PoolNumber p) (suc p) ∷ []

-- ---- each bid's numbers

-- is bid i a purchase?
abbrev pub side_block : ℕ → Block
side_block i = less (Side i) ZeroCell (Quantity i) ∷ []

-- the quantity if it is positive, less the quantity if it is not
abbrev pub size_block : ℕ → Block
size_block i =
    product (Temporary 0) (Quantity i) (Side i)
    ∷ difference (Temporary 1) (Quantity i) (Temporary 0)
    ∷ difference (Size i) (Temporary 0) (Temporary 1)
    ∷ []

-- the whole part of the price of bid i, raised so that it is not negative
abbrev pub raised_whole_block : ℕ → Block
raised_whole_block i = sum (RaisedWhole i) (WholePrice i) Shift ∷ []

-- and with it its price in hundredths
abbrev pub raised_price_block : ℕ → Block
raised_price_block i = product (Temporary 0) (RaisedWhole i) Hundred ∷ sum (RaisedPrice i) (Temporary 0) (Hundredths i) ∷ []

-- twice the raised price
abbrev pub double_block : ℕ → Block
double_block i = sum (Double i) (RaisedPrice i) (RaisedPrice i) ∷ []

-- the doubled price and the side
abbrev pub key_block : ℕ → Block
key_block i = sum (Key i) (Double i) (Side i) ∷ []

-- the doubled price and 1
abbrev pub next_block : ℕ → Block
next_block i = sum (Next i) (Double i) One ∷ []

-- is bid i in pool p?
abbrev pub membership_block : (i p : ℕ) → Block
membership_block i p = equal (Membership i p) (Pool i) (PoolNumber p) ∷ []

-- the size of bid i in pool p
abbrev pub pool_size_block : (i p : ℕ) → Block
pool_size_block i p = product (PoolSize i p) (Membership i p) (Size i) ∷ []

-- ---- the cuts

-- the demand of pool p, 0 to start from
abbrev pub demand_start : ℕ → Block
demand_start p = constant (Demand p) 0 ∷ []

-- the size of bid i, if it is a purchase in pool p, added to the pool's demand
abbrev pub demand_turn : (p i : ℕ) → Block
demand_turn p i = product (Temporary 0) (Side i) (PoolSize i p) ∷ sum (Demand p) (Demand p) (Temporary 0) ∷ []

-- the cut of set S, the sum over it to start from
abbrev pub cut_start : ℕ → Block
cut_start S = sum (Cut S) (Subset S) ZeroCell ∷ []

-- the zero cell where the line does not leave the set: every turn is one order
abbrev pub cut_turn : (S a b : ℕ) → Block
cut_turn S a b = sum (Cut S) (Cut S) (cond (leaves S a b) (Capacity a b) ZeroCell) ∷ []

-- ---- the ranks

-- is bid j before bid i? The tests say j < i and i < j.
abbrev pub test_at : Bool → Bool → (i j : ℕ) → OrderOn Name
test_at true y i j = less (Temporary 0) (Key j) (Next i)
test_at false true i j = less (Temporary 0) (Double j) (Key i)
test_at false false i j = less (Temporary 0) ZeroCell ZeroCell

-- is bid j before bid i? By the test for these two
abbrev pub test_order : (i j : ℕ) → OrderOn Name
test_order i j = test_at (ltb j i) (ltb i j) i j

-- the size of bid j in pool p, if the test said that j is before i, added to the sizes before bid i
abbrev pub gain_turn : (i j p : ℕ) → Block
gain_turn i j p = product (Temporary 1) (Temporary 0) (PoolSize j p) ∷ sum (SizeBefore i p) (SizeBefore i p) (Temporary 1) ∷ []

-- the sizes before bid i in pool p, 0 to start from
abbrev pub size_before_start : (i p : ℕ) → Block
size_before_start i p = constant (SizeBefore i p) 0 ∷ []

-- a cost in d, the greatest number to start from
abbrev pub cost_start : Name → Block
cost_start d = constant d greatest_positive ∷ []

-- lower d to what the set S costs: its cut, and the subset's sum outside it
abbrev pub cost_turn : (m : ℕ) (d : Name) (S : ℕ) → Block
cost_turn m d S = sum (Temporary 2) (Cut S) (Subset (complement m S)) ∷ lowered d (Temporary 2)

-- the sizes before bid i and its own
abbrev pub size_with_block : (i p : ℕ) → Block
size_with_block i p = sum (SizeWith i p) (SizeBefore i p) (PoolSize i p) ∷ []

-- ---- the amounts

-- the used amount of bid i
abbrev pub use_block : ℕ → Block
use_block i = difference (Used i) (RankWith i) (RankBefore i) ∷ []

-- the used amount of a sale, the size less the used amount of a purchase
abbrev pub amount_block : ℕ → Block
amount_block i =
    difference (Temporary 0) (Size i) (Used i)
    ∷ difference (Temporary 0) (Temporary 0) (Used i)
    ∷ product (Temporary 0) (Temporary 0) (Side i)
    ∷ sum (Amount i) (Used i) (Temporary 0)
    ∷ []

-- ---- the slacks

-- what is used in pool p, 0 to start from
abbrev pub placement_start : ℕ → Block
placement_start p = constant (Placement p) 0 ∷ []

-- the used amount of bid i, if it is in pool p, added to the pool's
abbrev pub placement_turn : (p i : ℕ) → Block
placement_turn p i = product (Temporary 0) (Membership i p) (Used i) ∷ sum (Placement p) (Placement p) (Temporary 0) ∷ []

-- the slack of set S before any line has its flow
abbrev pub slack_block : ℕ → Block
slack_block S = difference (Slack S) (Cut S) (Subset S) ∷ []

-- ---- which pool reaches which

-- has set S slack, before the lines take any?
abbrev pub slack_test_block : ℕ → Block
slack_test_block S = less (SlackTest S) ZeroCell (Slack S) ∷ []

-- whether pool l / m reaches pool l % m, 1 to start from
abbrev pub reach_start : ℕ → Block
reach_start l = constant (ReachTest l) 1 ∷ []

-- what the test is multiplied by: whether the set has slack, or 1; every turn is one order
abbrev pub reach_cell : Bool → (S : ℕ) → Name
reach_cell true S = SlackTest S
reach_cell false S = One

-- pool a of line l does not reach its pool b, if set S holds a without b and has no slack
abbrev pub reach_turn : (l a b S : ℕ) → Block
reach_turn l a b S = product (ReachTest l) (ReachTest l) (reach_cell (leaves S a b) S) ∷ []

-- ---- the lines

-- what line a to b leaves unused, its capacity to start from
abbrev pub rest_start : (a b : ℕ) → Block
rest_start a b = sum (Temporary 2) (Capacity a b) ZeroCell ∷ []

-- where the set does not separate the line's ends, the least is taken with the capacity again
abbrev pub rest_cell : Bool → (S a b : ℕ) → Name
rest_cell true S a b = Slack S
rest_cell false S a b = Capacity a b

-- one step of the least: what line a to b leaves unused is at most the slack of S, if the line leaves S
abbrev pub rest_turn : (a b S : ℕ) → Block
rest_turn a b S = lowered (Temporary 2) (rest_cell (leaves S a b) S a b)

-- the flow of line l, a to b: its capacity less the rest
abbrev pub flow_block : (l a b : ℕ) → Block
flow_block l a b = difference (Flow l) (Capacity a b) (Temporary 2) ∷ []

-- what comes off a slack: the rest, the flow, or nothing
abbrev pub taken_cell : Bool → Bool → (l : ℕ) → Name
taken_cell true y l = Temporary 2
taken_cell false true l = Flow l
taken_cell false false l = ZeroCell

-- the slack of S after line l, a to b
abbrev pub take_turn : (l a b S : ℕ) → Block
take_turn l a b S = difference (Slack S) (Slack S) (taken_cell (leaves S a b) (leaves S b a) l) ∷ []

-- ---- the prices

-- the limit of prices in hundredths and 1, less the price of bid i, if the bid is not used up
abbrev pub margin_block : ℕ → Block
margin_block i =
    less (Temporary 0) (Used i) (Size i)
    ∷ difference (Temporary 1) Top (RaisedPrice i)
    ∷ product (Margin i) (Temporary 0) (Temporary 1)
    ∷ []

-- a greatest in d, 0 to start from
abbrev pub greatest_start : Name → Block
greatest_start d = constant d 0 ∷ []

-- one step of the greatest: the product of a test and a number
abbrev pub greatest_turn : (d test number : Name) → Block
greatest_turn d test number = product (Temporary 2) test number ∷ raised d (Temporary 2)

-- has bid i the best margin of pool p, and so its price if the pool has one?
abbrev pub price_test_block : (i p : ℕ) → Block
price_test_block i p = equal (PriceTest i p) (Margin i) (BestMargin p) ∷ []

-- has any pool that reaches pool p a margin? The whole part of its price, and the hundredths: what the price has above 100 times that. Without a margin
-- the bids that are used up pass the test of the price; the presence takes away what comes of them.
abbrev pub price_block : ℕ → Block
price_block p =
    less (Presence p) ZeroCell (BestMargin p)
    ∷ difference (Temporary 0) (PoolWhole p) Shift
    ∷ product (PriceOfPool p) (Temporary 0) (Presence p)
    ∷ product (Temporary 0) (PoolWhole p) Hundred
    ∷ difference (Temporary 1) Top (BestMargin p)
    ∷ difference (Temporary 1) (Temporary 1) (Temporary 0)
    ∷ product (HundredthsOfPool p) (Temporary 1) (Presence p)
    ∷ []

-- ---- the end

-- 0 in scratch cell c: the scratch begins with the temporaries, a family of one column
abbrev pub zero_block : ℕ → Block
zero_block c = constant (Temporary c) 0 ∷ []
