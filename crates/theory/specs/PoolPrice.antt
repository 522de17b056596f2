-- What a pool price is, in the request's words (`LeastPrice` of the bids that `Supplies` says), and how a plan finds it: by a greatest, of the limit of
-- prices in hundredths and 1, less the price, over these bids (`least_price_margin`).
use Rattle.std.specs.Prelude.{◌≡◌, Bool, true, false, cond, ◌&&◌, ltb, ℤ, ◌≤ℤ◌, refl, ℕ, zero, suc, ◌≤◌, ◌<◌, max}
use Rattle.std.proofs.Common.{ap₂, arith}
use Rattle.definitions.specs.Limits.{price_limit}
use Rattle.definitions.specs.Arithmetic.{on}
use Rattle.definitions.specs.Book.{Book, whole_price, hundredths, in_hundredths, price, size, in_pool}
use Rattle.definitions.specs.Clearing.{Clearing, used}
use Rattle.definitions.specs.PoolPrice.{PoolPrice, missing, present, lower_price, least_price}
use Rattle.laws.specs.Tests.{Lt?, less, more, lt?}
use Rattle.laws.specs.Extremes.{max_to}
use Rattle.laws.specs.AcceptedBook.{Sound, pool_index}
use Rattle.theory.specs.Integers.{RaisedBy, raised_by_less}
use Rattle.theory.specs.Hundredths.{price_raised}
use Rattle.theory.specs.ClosedForms.{used_amount, reached, price_margin}
use Rattle.theory.specs.Reachable.{Reaches}

-- Bid i is among the "bids with used amount below their size, in a pool from which the pool in question can be reached", step by step.
pub record Supplies (B : Book) (c : Clearing) (p i : ℕ) : Type 0 where
  pub below_size : used B c.accepted i < size B i
  pub from : ℕ
  pub from_below : from < B.m
  pub in_from : in_pool B from i ≡ true
  pub reached_from : Reaches B c.flow from p

-- Among the first k bids: none passes the test, or bid i does, whose price in its two parts it is, and none that does has a lower price.
pub data LeastPrice (B : Book) (Test : ℕ → Type 0) (k : ℕ) : PoolPrice → Type 0 where
  none : ((i : ℕ) → i < k → Test i → ⊥) → LeastPrice B Test k missing
  some : (i : ℕ) → i < k → Test i → ((j : ℕ) → j < k → Test j → price B i ≤ℤ price B j) → LeastPrice B Test k (present (whole_price B i) (hundredths B i))

-- bid i supplies pool p, by closed forms
unfoldable pub supplied : Book → (p i : ℕ) → Bool
supplied B p i = ltb (used_amount B i) (size B i) && reached B (pool_index B i) p

-- only the tests count
pub least_price_ext : (B : Book) (s t : ℕ → Bool) (k : ℕ) → ((i : ℕ) → i < k → s i ≡ t i) → least_price B s k ≡ least_price B t k
unfolding least_price
least_price_ext B s t zero e = refl
least_price_ext B s t (suc k) e =
    ap₂ (λ (x : Bool) (y : PoolPrice). cond x (lower_price y (whole_price B k) (hundredths B k)) y) (e k (omega arith)) (least_price_ext B s t k (λ i l. e i (omega arith)))

-- ---- as a greatest

-- h is the limit of prices in hundredths and 1, less the price; 0 for a missing price
abbrev pub IsMargin : PoolPrice → ℕ → Type 0
IsMargin missing h = h ≡ 0
IsMargin (present w k) h = RaisedBy h (in_hundredths w k) (suc price_limit) × (0 < h)

lower_margin : (v g w k : ℤ) (h l : ℕ) → IsMargin (present v g) h → IsMargin (present w k) l → IsMargin (lower_price (present v g) w k) (max h l)
lower_margin v g w k h l q r = rw (raised_by_less (suc price_limit) (in_hundredths w k) (in_hundredths v g) l h r.0 q.0) (go (lt? h l))
  where
    go : {t : Bool} → Lt? h l t → IsMargin (cond t (present w k) (present v g)) (max h l)
    go (less a) = (omega (arith, r.0), omega arith)
    go (more a) = (omega (arith, q.0), omega (arith, q.1))

pub bid_margin : (B : Book) → Sound B → (i : ℕ) → i < B.n → IsMargin (present (whole_price B i) (hundredths B i)) (price_margin B i)
bid_margin B ok i l = (omega (arith, price_raised B ok i l, ok.price_small i l), omega (arith, ok.price_small i l))

module _ (B : Book) (ok : Sound B) (test : ℕ → Bool) where
  -- the greatest margin of the first k bids that pass the test
  abbrev pub greatest_margin : ℕ → ℕ
  greatest_margin k = max_to k (λ i. on (test i) (price_margin B i))

  pub least_price_margin : (k : ℕ) → k ≤ B.n → IsMargin (least_price B test k) (greatest_margin k)
  unfolding least_price max_to
  least_price_margin zero l = refl
  least_price_margin (suc k) l = go (test k) (least_price B test k) (least_price_margin k (omega arith)) (bid_margin B ok k l)
    where
      go : (t : Bool) (x : PoolPrice) → IsMargin x (greatest_margin k) → IsMargin (present (whole_price B k) (hundredths B k)) (price_margin B k)
          → IsMargin (cond t (lower_price x (whole_price B k) (hundredths B k)) x) (max (greatest_margin k) (on t (price_margin B k)))
      go false missing h q = omega arith
      go false (present w g) h q = (omega (arith, h.0), omega (arith, h.1))
      go true missing h q = (omega (arith, q.0), omega (arith, q.1))
      go true (present w g) h q = lower_margin w g (whole_price B k) (hundredths B k) (greatest_margin k) (price_margin B k) h q
