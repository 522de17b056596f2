-- Every number that the plan computes of a sound book is below half the modulus, so that nothing wraps: what the theory's bounds of the closed forms give for
-- the sums and differences that the plan makes of them.
use Rattle.std.specs.Prelude.{Bool, not, ℕ, ◌+◌, ◌*◌, ◌^◌, ◌≤◌, ◌<◌, ltb, eqb}
use Rattle.std.proofs.Common.{mul-le-mul_right, arith}
use Rattle.definitions.specs.Limits.{pool_limit, whole_limit, price_limit, quantity_limit, greatest_positive}
use Rattle.definitions.specs.Arithmetic.{on, sum_to}
use Rattle.definitions.specs.Book.{Book, size}
use Rattle.laws.specs.Sum.{sum_bound}
use Rattle.laws.specs.Extremes.{min_le_start, max_to, max_below}
use Rattle.laws.specs.Tests.{on_le}
use Rattle.laws.specs.AcceptedBook.{pool_index, Sound}
use Rattle.theory.specs.ClosedBest.{size_total}
use Rattle.theory.proofs.ClosedBest.{demand_small, size_before_small, cut_small, used_size}
use Rattle.plan.specs.Subsets.{member}
use Rattle.plan.proofs.Values.{pool_size, demand, cut, size_with, rank, used_amount, price_margin, reached, margin, pool_margin, best_margin, raised_whole, has_price, pool_whole}

-- a sum of at most so many terms
pub sum_limit_lem : (k K : ℕ) (f : ℕ → ℕ) (b : ℕ) → k ≤ K → ((i : ℕ) → i < k → f i ≤ b) → sum_to k f ≤ K * b
sum_limit_lem k K f b l h = omega (arith, sum_bound k b f h, mul-le-mul_right b l)

module _ (B : Book) (sound : Sound B) where
  pub pool_size_small : (i p : ℕ) → i < B.n → pool_size B i p ≤ quantity_limit
  pool_size_small i p l = omega (arith, on_le (eqb (pool_index B i) p) (size B i), sound.size_small i l)

  pub demands_small : sum_to B.m (demand B) ≤ pool_limit * size_total
  demands_small = sum_limit_lem B.m pool_limit (demand B) size_total sound.pools (λ p _. demand_small B sound p)

  pub size_with_small : (i p : ℕ) → i < B.n → size_with B i p ≤ size_total + quantity_limit
  unfolding size_with
  size_with_small i p l = omega (arith, size_before_small B sound i p, pool_size_small i p l)

  -- what a set costs, for bids with sums x
  pub set_cost_small : (x : ℕ → ℕ) → ((p : ℕ) → p < B.m → x p ≤ size_total + quantity_limit) → (S : ℕ) → cut B S + sum_to B.m (λ p. on (not (member S p)) (x p)) ≤ greatest_positive
  set_cost_small x h S =
      omega (
        arith,
        cut_small B sound S,
        sum_limit_lem B.m pool_limit (λ p. on (not (member S p)) (x p)) (size_total + quantity_limit) sound.pools (λ p l. omega (arith, on_le (not (member S p)) (x p), h p l)),
      )

  pub rank_small : (x : ℕ → ℕ) → rank B x ≤ greatest_positive
  unfolding rank
  rank_small x = min_le_start greatest_positive (2 ^ B.m) _

  pub used_small : (i : ℕ) → i < B.n → used_amount B i ≤ quantity_limit
  used_small i l = omega (arith, used_size B sound i l, sound.size_small i l)

-- ---- margins, of any book

module _ (B : Book) where
  pub margin_small : (i : ℕ) → margin B i ≤ 2 * price_limit + 1
  unfolding margin
  margin_small i = omega (arith, on_le (ltb (used_amount B i) (size B i)) (price_margin B i))

  -- a greatest of such numbers, where tests hold
  greatest_small : (k : ℕ) (t : ℕ → Bool) (f : ℕ → ℕ) → ((i : ℕ) → f i ≤ 2 * price_limit + 1) → max_to k (λ i. on (t i) (f i)) ≤ 2 * price_limit + 1
  greatest_small k t f h = max_below k (λ i. on (t i) (f i)) (2 * price_limit + 1) (λ i _. omega (arith, on_le (t i) (f i), h i))

  pub pool_margin_small : (p : ℕ) → pool_margin B p ≤ 2 * price_limit + 1
  unfolding pool_margin
  pool_margin_small p = greatest_small B.n (λ i. eqb (pool_index B i) p) (margin B) margin_small

  pub best_margin_small : (p : ℕ) → best_margin B p ≤ 2 * price_limit + 1
  unfolding best_margin
  best_margin_small p = greatest_small B.m (λ q. reached B q p) (pool_margin B) pool_margin_small

  pub pool_whole_small : Sound B → (p : ℕ) → pool_whole B p ≤ 2 * whole_limit
  unfolding pool_whole
  pool_whole_small sound p =
      max_below B.n (λ i. on (has_price B i p) (raised_whole B i)) (2 * whole_limit) (λ i l. omega (arith, on_le (has_price B i p) (raised_whole B i), sound.whole_small i l))
