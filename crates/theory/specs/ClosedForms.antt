-- The numbers that a plan computes from a book's numbers, each a sum, a least or a greatest over an index. A set of pools is a number below 2 ^ m.
-- demand, cut, cost, rank, slack, rest_of and line_flow are here those of a book; Network, Rank and Slacks have them for any network.
use Rattle.std.specs.Prelude.{ℕ, zero, suc, ◌+◌, ◌-◌, ◌*◌, ◌/◌, ◌%◌, ◌^◌, Bool, not, ◌&&◌, ◌||◌, cond, ltb, eqb}
use Rattle.definitions.specs.Limits.{whole_limit, hundred, price_limit, greatest_positive}
use Rattle.definitions.specs.Arithmetic.{on, sum_to, all_to}
use Rattle.definitions.specs.Book.{Book, purchase, size, capacity}
use Rattle.definitions.specs.Machine.{minus}
use Rattle.definitions.specs.Clearing.{Clearing, before}
use Rattle.laws.specs.Extremes.{min_to, max_to}
use Rattle.laws.specs.AcceptedBook.{pool_index, raised_whole, raised_price}
use Rattle.theory.specs.Subsets.{member}

-- line a to b leaves set S
abbrev pub leaves : (S a b : ℕ) → Bool
leaves S a b = member S a && not (member S b)

-- the sum of x over the pools of set S
unfoldable pub subset_sum : (m : ℕ) (x : ℕ → ℕ) (S : ℕ) → ℕ
subset_sum m x S = sum_to m (λ p. on (member S p) (x p))

-- what a raised price and its margin add up to
abbrev pub top : ℕ
top = 2 * price_limit + 1

module _ (B : Book) where
  -- 1 for a purchase, 0 for a sale
  abbrev pub side : ℕ → ℕ
  side i = on (purchase B i) 1

  -- two keys compare merit: at equal price a sale is before a purchase
  abbrev pub key : ℕ → ℕ
  key i = 2 * raised_price B i + side i

  -- the size of bid i if it is in pool p
  abbrev pub pool_size : (i p : ℕ) → ℕ
  pool_size i p = on (eqb (pool_index B i) p) (size B i)

  -- the sizes of the purchases in pool p
  unfoldable pub demand : ℕ → ℕ
  demand p = sum_to B.n (λ i. on (purchase B i) (pool_size i p))

  -- the most that can be used in the pools of S: their demand, and the capacities of the lines that leave S
  unfoldable pub cut : ℕ → ℕ
  cut S = subset_sum B.m demand S + sum_to B.m (λ a. sum_to B.m (λ b. on (leaves S a b) (capacity B a b)))

  -- the sizes in pool p of the bids before bid i
  unfoldable pub size_before : (i p : ℕ) → ℕ
  size_before i p = sum_to B.n (λ j. on (before B j i) (pool_size j p))

  -- and with bid i
  unfoldable pub size_with : (i p : ℕ) → ℕ
  size_with i p = size_before i p + pool_size i p

  -- what S allows bids to use whose sizes in pool p sum to x p: its cut, and their sizes outside S
  abbrev pub cost : (ℕ → ℕ) → ℕ → ℕ
  cost x S = cut S + sum_to B.m (λ p. on (not (member S p)) (x p))

  -- the most that such bids can use: the least that a set allows
  unfoldable pub rank : (ℕ → ℕ) → ℕ
  rank x = min_to greatest_positive (2 ^ B.m) (λ S. cost x S)

  -- the used amount of bid i: what it adds to the rank of the bids before it
  unfoldable pub used_amount : ℕ → ℕ
  used_amount i = rank (size_with i) - rank (size_before i)

  -- a purchase takes what is not used of its size
  unfoldable pub accepted_amount : ℕ → ℕ
  accepted_amount i = cond (purchase B i) (size B i - used_amount i) (used_amount i)

  -- what is used in pool p
  unfoldable pub placement : ℕ → ℕ
  placement p = sum_to B.n (λ i. on (eqb (pool_index B i) p) (used_amount i))

  -- what S could still take
  unfoldable pub slack : ℕ → ℕ
  slack S = cut S - subset_sum B.m placement S

  -- with slacks x: what line a to b leaves of its capacity
  unfoldable pub rest_of : (ℕ → ℕ) → (a b : ℕ) → ℕ
  rest_of x a b = min_to (capacity B a b) (2 ^ B.m) (λ S. cond (leaves S a b) (x S) (capacity B a b))

  -- its flow
  unfoldable pub flow_of : (ℕ → ℕ) → (a b : ℕ) → ℕ
  flow_of x a b = capacity B a b - rest_of x a b

  -- what it takes off the slack of S
  abbrev pub taken_of : (ℕ → ℕ) → (a b S : ℕ) → ℕ
  taken_of x a b S = cond (leaves S a b) (rest_of x a b) (on (leaves S b a) (flow_of x a b))

  -- the slack of S after l lines, line l going from pool l / m to pool l % m
  unfoldable pub slack_after : (l S : ℕ) → ℕ
  slack_after zero S = slack S
  slack_after (suc l) S = slack_after l S - taken_of (slack_after l) (l / B.m) (l % B.m) S

  -- the flow of line l
  abbrev pub line_flow : ℕ → ℕ
  line_flow l = flow_of (slack_after l) (l / B.m) (l % B.m)

  -- the clearing that these numbers give
  abbrev pub closed_clearing : Clearing
  closed_clearing = record { accepted = λ i. accepted_amount i; flow = λ a b. line_flow (a * B.m + b) }

  -- set S does not hold q without p, or it has slack
  abbrev pub unparted : (q p S : ℕ) → Bool
  unparted q p S = not (leaves S q p) || ltb 0 (slack S)

  -- pool q reaches pool p: no set without slack holds q without p
  unfoldable pub reached : (q p : ℕ) → Bool
  reached q p = all_to (2 ^ B.m) (unparted q p)

  -- the limit of prices in hundredths and 1, less the price of bid i: the greater the lower the price, and never 0
  abbrev pub price_margin : ℕ → ℕ
  price_margin i = top - raised_price B i

  -- this if something of bid i is not used, else 0
  unfoldable pub margin : ℕ → ℕ
  margin i = on (ltb (used_amount i) (size B i)) (price_margin i)

  -- the greatest in pool p
  unfoldable pub pool_margin : ℕ → ℕ
  pool_margin p = max_to B.n (λ i. on (eqb (pool_index B i) p) (margin i))

  -- the greatest in the pools that reach pool p
  unfoldable pub best_margin : ℕ → ℕ
  best_margin p = max_to B.m (λ q. on (reached q p) (pool_margin q))

  -- bid i has that margin, and so the pool's price if the pool has one
  abbrev pub has_price : (i p : ℕ) → Bool
  has_price i p = eqb (margin i) (best_margin p)

  -- the whole part, raised, of the price of such a bid
  unfoldable pub pool_whole : ℕ → ℕ
  pool_whole p = max_to B.n (λ i. on (has_price i p) (raised_whole B i))

  -- a pool's price cell, 0 if it has none
  abbrev pub closed_price : ℕ → ℕ
  closed_price p = on (ltb 0 (best_margin p)) (minus (pool_whole p) whole_limit)

  -- its hundredths: what the price has above 100 times its whole part
  abbrev pub closed_hundredths : ℕ → ℕ
  closed_hundredths p = on (ltb 0 (best_margin p)) (minus (minus top (best_margin p)) (hundred * pool_whole p))

  -- its presence cell
  abbrev pub closed_presence : ℕ → ℕ
  closed_presence p = on (ltb 0 (best_margin p)) 1
