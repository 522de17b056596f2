-- What changes hands in a pool: the numbers that the code gives (`ChangesHands`), and how it sums them, one side of the bids, a column or a row of
-- the lines.
use Rattle.std.specs.Prelude.{ℕ, suc, ◌+◌, ◌*◌, ◌^◌, ◌≤◌, ◌<◌, ◌≡◌, refl, Bool, true, ◌&&◌, List, eqb, ltb, leb, length, get_or, ℤ, pos, nat_abs}
use Rattle.std.proofs.Common.{ap, arith, ltb-true, leb-true, eqb-true, lt-ltb, le-leb, eq-eqb}
use Rattle.sums.specs.declared.side.Side.{Side}
use Rattle.sums.specs.declared.side.Side.TheVariants.{Sales, Purchases}
use Rattle.definitions.specs.Limits.{bid_limit, pool_limit, bid_numbers}
use Rattle.definitions.specs.Arithmetic.{on, sum_to, eq_z}
use Rattle.definitions.specs.Book.{Book, pool, quantity}
use Rattle.definitions.specs.Checks.{amount_sent, clearing_of}
use Rattle.definitions.specs.Clearing.{Clearing, sold, bought, inflow, outflow}
use Rattle.laws.specs.Sum.{sum_ext}
use Rattle.std.specs.Cmp.{first_so, second_so}
use Rattle.sums.specs.BidsOnly.{bids_only}
use Rattle.sums.specs.Sides.{on_side}

-- ---- tables that fit

-- pool p of m, and tables of the lengths that go with so many amounts and with m pools
unfoldable pub summable : (m p bids amounts flows : ℕ) → Bool
summable m p bids amounts flows =
    leb amounts bid_limit && (leb m pool_limit && (ltb p m && (eqb bids (bid_numbers * amounts) && eqb flows (m * m))))

-- what that says of the tables
pub record TablesFit (m bids amounts flows : ℕ) : Type 0 where
  pub few_bids : amounts ≤ bid_limit
  pub few_pools : m ≤ pool_limit
  pub bid_table : bids ≡ bid_numbers * amounts
  pub lines : flows ≡ m * m

pub summable_fits : (m p bids amounts flows : ℕ) → summable m p bids amounts flows ≡ true → TablesFit m bids amounts flows × (p < m)
unfolding summable
summable_fits m p bids amounts flows e =
    let by_pools = second_so (leb amounts bid_limit) _ e in
    let by_pool = second_so (leb m pool_limit) _ by_pools in
    let by_tables = second_so (ltb p m) _ by_pool in (
      record {
        few_bids = leb-true _ _ (first_so (leb amounts bid_limit) _ e);
        few_pools = leb-true _ _ (first_so (leb m pool_limit) _ by_pools);
        bid_table = eqb-true _ _ (first_so (eqb bids (bid_numbers * amounts)) _ by_tables);
        lines = eqb-true _ _ (second_so (eqb bids (bid_numbers * amounts)) _ by_tables);
      },
      ltb-true _ _ (first_so (ltb p m) _ by_pool),
    )

pub fits_summable : (m p bids amounts flows : ℕ) → TablesFit m bids amounts flows → p < m → summable m p bids amounts flows ≡ true
unfolding summable
fits_summable m p bids amounts flows fit l =
    rw (le-leb _ _ fit.few_bids, le-leb _ _ fit.few_pools, lt-ltb _ _ l, eq-eqb _ _ fit.bid_table, eq-eqb _ _ fit.lines) refl

-- ---- what the code gives

-- no sum is greater: each of its terms is the size of a 32-bit number
abbrev pub sum_limit : ℕ
sum_limit = bid_limit * 2 ^ 31

-- these four numbers are what changes hands in pool p under a clearing if the tables fit, else 0
pub record ChangesHands (fit : Bool) (B : Book) (c : Clearing) (p : ℕ) (sales purchases entering leaving : ℕ) : Type 0 where
  pub sold_is : sales ≡ on fit (sold B c.accepted p)
  pub bought_is : purchases ≡ on fit (bought B c.accepted p)
  pub inflow_is : entering ≡ on fit (inflow B c.flow p)
  pub outflow_is : leaving ≡ on fit (outflow B c.flow p)
  pub small : (sales ≤ sum_limit) × (purchases ≤ sum_limit) × (entering ≤ sum_limit) × (leaving ≤ sum_limit)

-- under the amounts and flows sent, each by its size
abbrev pub PoolSummed : (m p : ℕ) (bids amounts flows : List ℤ) (sales purchases entering leaving : ℕ) → Type 0
PoolSummed m p bids amounts flows =
    ChangesHands (summable m p (length bids) (length amounts) (length flows)) (bids_only (length amounts) m bids) (clearing_of m amounts flows) p

-- ---- how it sums them

-- a bid of this quantity is on the side asked for, and its pool has this number
abbrev pub stands : Side → (number pool quantity : ℤ) → Bool
stands side number pool quantity = on_side side quantity && eq_z pool number

-- what bid i adds to the accepted purchases of pool p, or to its accepted sales
abbrev pub added_by : Side → (p : ℕ) (bids amounts : List ℤ) → ℕ → ℕ
added_by side p bids amounts i =
    let B = bids_only (length amounts) 0 bids in
    on (stands side (pos (suc p)) (pool B i) (quantity B i)) (nat_abs (amount_sent amounts i))

-- these purchases, or these sales
unfoldable pub side_in : Side → (bids amounts : List ℤ) (p : ℕ) → ℕ
side_in side bids amounts p = sum_to (length amounts) (added_by side p bids amounts)

module _ (m : ℕ) (bids amounts flows : List ℤ) (p : ℕ) where
  pub side_sold : side_in Sales bids amounts p ≡ sold (bids_only (length amounts) m bids) (clearing_of m amounts flows).accepted p
  unfolding side_in sold
  side_sold = refl

  pub side_bought : side_in Purchases bids amounts p ≡ bought (bids_only (length amounts) m bids) (clearing_of m amounts flows).accepted p
  unfolding side_in bought
  side_bought = refl

  -- the lines that enter pool p stand in its column, those that leave it in its row
  pub column_inflow : sum_to m (λ k. nat_abs (get_or flows (k * m + p) (pos 0))) ≡ inflow (bids_only (length amounts) m bids) (clearing_of m amounts flows).flow p
  unfolding inflow
  column_inflow = refl

  pub row_outflow : sum_to m (λ k. nat_abs (get_or flows (k * 1 + p * m) (pos 0))) ≡ outflow (bids_only (length amounts) m bids) (clearing_of m amounts flows).flow p
  unfolding outflow
  row_outflow = sum_ext m _ _ (λ k l. ap (λ (at : ℕ). nat_abs (get_or flows at (pos 0))) (let e : k * 1 + p * m ≡ p * m + k = omega arith in e))
