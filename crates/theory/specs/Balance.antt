-- Used amounts and flows that balance in each pool keep within every cut, and in all pools together use the whole demand.
use Rattle.std.specs.Prelude.{◌≡◌, refl, Bool, true, false, not, ◌&&◌, ℕ, ◌+◌, ◌≤◌, ◌<◌, eqb}
use Rattle.std.proofs.Common.{sym, ap, ◌∙◌, arith}
use Rattle.std.proofs.Math.Bool.{not-not}
use Rattle.definitions.specs.Arithmetic.{on, sum_to}
use Rattle.laws.specs.Sum.{sum_ext, sum_le, sum_add, sum_zero, sum_one, sum_swap}
use Rattle.laws.specs.Tests.{Eq?, same, diff, eq?}
use Rattle.theory.specs.Network.{goes_out, Network, SoundNetwork, demand, leaving, entering, cut, amount_in}
use Rattle.theory.specs.Choices.{on_monotone, on_not, on_add, on_on, on_and, on_sum}

-- the pool p alone
abbrev pub only : ℕ → ℕ → Bool
only p = λ q. eqb q p

-- the pools not in S; plan/specs/Subsets has it for a set that is a number
abbrev pub complement : (ℕ → Bool) → ℕ → Bool
complement S = λ q. not (S q)

-- every pool
abbrev pub all : ℕ → Bool
all = λ q. true

-- the sum of f over the lines that end in S
unfoldable pub arriving : Network → (ℕ → ℕ) → (ℕ → Bool) → ℕ
arriving N f S = sum_to N.lines (λ j. on (S (N.target j)) (f j))

-- the sum of f over the lines that start in S
unfoldable pub departing : Network → (ℕ → ℕ) → (ℕ → Bool) → ℕ
departing N f S = sum_to N.lines (λ j. on (S (N.source j)) (f j))

-- in each pool: used + inflow = purchases' sizes + outflow
pub record FeasibleUse (N : Network) (x f : ℕ → ℕ) : Type 0 where
  pub sizes : (i : ℕ) → i < N.bids → x i ≤ N.size i
  pub capacities : (j : ℕ) → j < N.lines → f j ≤ N.capacity j
  pub balance : (p : ℕ) → p < N.pools → amount_in N x (only p) + arriving N f (only p) ≡ demand N (only p) + departing N f (only p)

-- ---- a set of pools and its complement

-- what enters a set leaves its complement, and what leaves it enters the complement
pub entering_leaving : (N : Network) (f : ℕ → ℕ) (S : ℕ → Bool) → entering N f S ≡ leaving N f (complement S)
unfolding entering leaving
entering_leaving N f S = sum_ext _ _ _ (λ j l. ap (λ (t : Bool). on (not (S (N.source j)) && t) (f j)) (sym (not-not (S (N.target j)))))

pub leaving_entering : (N : Network) (f : ℕ → ℕ) (S : ℕ → Bool) → leaving N f S ≡ entering N f (complement S)
unfolding entering leaving
leaving_entering N f S = sum_ext _ _ _ (λ j l. ap (λ (s : Bool). on (s && not (S (N.target j))) (f j)) (sym (not-not (S (N.source j)))))

-- the two together use what all pools use
pub amount_in_complement : (N : Network) (x : ℕ → ℕ) (S : ℕ → Bool) → amount_in N x S + amount_in N x (complement S) ≡ amount_in N x all
unfolding amount_in
amount_in_complement N x S = sym (sum_add N.bids _ _) ∙ sum_ext _ _ _ (λ i l. on_not (S (N.pool i)) (x i))

demand_complement_one : (s t : Bool) (v : ℕ) → on (s && t) v + on (not s && t) v ≡ on (true && t) v
demand_complement_one true t v = omega arith
demand_complement_one false t v = omega arith

-- the two together demand what all pools demand
pub demand_complement : (N : Network) (S : ℕ → Bool) → demand N S + demand N (complement S) ≡ demand N all
unfolding demand
demand_complement N S = sym (sum_add N.bids _ _) ∙ sum_ext _ _ _ (λ i l. demand_complement_one (S (N.pool i)) (N.purchase i) (N.size i))

-- ---- balance

-- only the bids' own amounts count
pub amount_in_same : (N : Network) (x y : ℕ → ℕ) → ((i : ℕ) → i < N.bids → x i ≡ y i) → (S : ℕ → Bool) → amount_in N x S ≡ amount_in N y S
unfolding amount_in
amount_in_same N x y h S = sum_ext _ _ _ (λ i l. ap (on (S (N.pool i))) (h i l))

pub feasible_same : (N : Network) (x y f : ℕ → ℕ) → ((i : ℕ) → i < N.bids → x i ≡ y i) → FeasibleUse N x f → FeasibleUse N y f
feasible_same N x y f h c = record {
  sizes = λ i l. omega (arith, h i l, c.sizes i l);
  capacities = c.capacities;
  balance = λ p l. omega (arith, amount_in_same N x y h (only p), c.balance p l);
}

-- lines inside S cancel
net_one : (s t : Bool) (v : ℕ) → on t v + on (s && not t) v ≡ on s v + on (not s && t) v
net_one true t v = omega (arith, on_not t v)
net_one false t v = omega arith

pub net : (N : Network) (f : ℕ → ℕ) (S : ℕ → Bool) → arriving N f S + leaving N f S ≡ departing N f S + entering N f S
unfolding arriving departing leaving entering
net N f S =
    sym (sum_add N.lines _ _)
    ∙ sum_ext _ _ _ (λ j l. net_one (S (N.source j)) (S (N.target j)) (f j))
    ∙ sum_add N.lines _ _

-- a sum by places is the sum over the pools of the sums in each
eqb_flip : (i k : ℕ) {s t : Bool} → Eq? i k s → Eq? k i t → s ≡ t
eqb_flip i k (same p) (same q) = refl
eqb_flip i k (diff p) (diff q) = refl
eqb_flip i k (same p) (diff q) = absurd (q (sym p))
eqb_flip i k (diff p) (same q) = absurd (p (sym q))

pub eqb_symmetric : (i k : ℕ) → eqb i k ≡ eqb k i
eqb_symmetric i k = eqb_flip i k (eq? i k) (eq? k i)

pub by_pool : (n m : ℕ) (at v : ℕ → ℕ) → ((i : ℕ) → i < n → at i < m) → (S : ℕ → Bool)
    → sum_to m (λ p. on (S p) (sum_to n (λ i. on (eqb (at i) p) (v i)))) ≡ sum_to n (λ i. on (S (at i)) (v i))
by_pool n m at v h S =
    sum_ext m _ (λ p. sum_to n (λ i. on (eqb p (at i)) (on (S p) (v i)))) (λ p l.
    on_sum (S p) n _ ∙ sum_ext n _ _ (λ i r.
    on_on (S p) (eqb (at i) p) (v i) ∙ ap (λ (z : Bool). on z (on (S p) (v i))) (eqb_symmetric (at i) p)))
    ∙ sum_swap m n (λ p i. on (eqb p (at i)) (on (S p) (v i)))
    ∙ sum_ext n _ _ (λ i r. sum_one m (at i) (λ p. on (S p) (v i)) (h i r))

demand_by : (N : Network) (S : ℕ → Bool) → demand N S ≡ amount_in N (λ i. on (N.purchase i) (N.size i)) S
unfolding demand amount_in
demand_by N S = sum_ext _ _ _ (λ i l. on_and (S (N.pool i)) (N.purchase i) (N.size i))

module _ (N : Network) (k : SoundNetwork N) where
  pools_in : (v : ℕ → ℕ) (S : ℕ → Bool) → sum_to N.pools (λ p. on (S p) (amount_in N v (only p))) ≡ amount_in N v S
  unfolding amount_in
  pools_in v S = by_pool N.bids N.pools N.pool v k.pool_below S

  pools_demand : (S : ℕ → Bool) → sum_to N.pools (λ p. on (S p) (demand N (only p))) ≡ demand N S
  pools_demand S =
      sum_ext _ _ _ (λ p l. ap (on (S p)) (demand_by N (only p)))
      ∙ pools_in (λ i. on (N.purchase i) (N.size i)) S
      ∙ sym (demand_by N S)

  pools_arriving : (f : ℕ → ℕ) (S : ℕ → Bool) → sum_to N.pools (λ p. on (S p) (arriving N f (only p))) ≡ arriving N f S
  unfolding arriving
  pools_arriving f S = by_pool N.lines N.pools N.target f k.target_below S

  pools_departing : (f : ℕ → ℕ) (S : ℕ → Bool) → sum_to N.pools (λ p. on (S p) (departing N f (only p))) ≡ departing N f S
  unfolding departing
  pools_departing f S = by_pool N.lines N.pools N.source f k.source_below S

  -- the balances, added over S
  pub cut_balance : (x f : ℕ → ℕ) → FeasibleUse N x f → (S : ℕ → Bool) → amount_in N x S + entering N f S ≡ demand N S + leaving N f S
  cut_balance x f c S =
      let e : sum_to N.pools (λ p. on (S p) (amount_in N x (only p)) + on (S p) (arriving N f (only p)))
      ≡ sum_to N.pools (λ p. on (S p) (demand N (only p)) + on (S p) (departing N f (only p)))
      = sum_ext _ _ _ (λ p l. sym (on_add (S p) _ _) ∙ ap (on (S p)) (c.balance p l) ∙ on_add (S p) _ _) in
      omega (
        arith,
        e,
        sum_add N.pools (λ p. on (S p) (amount_in N x (only p))) (λ p. on (S p) (arriving N f (only p))),
        sum_add N.pools (λ p. on (S p) (demand N (only p))) (λ p. on (S p) (departing N f (only p))),
        pools_in x S,
        pools_demand S,
        pools_arriving f S,
        pools_departing f S,
        net N f S,
      )

  leaving_monotone : (f h : ℕ → ℕ) (S : ℕ → Bool) → ((j : ℕ) → j < N.lines → f j ≤ h j) → leaving N f S ≤ leaving N h S
  unfolding leaving
  leaving_monotone f h S q = sum_le _ _ _ (λ j l. on_monotone (goes_out N S j) (f j) (h j) (q j l))

  pub cut_bound : (x f : ℕ → ℕ) → FeasibleUse N x f → (S : ℕ → Bool) → amount_in N x S ≤ cut N S
  unfolding cut
  cut_bound x f c S = omega (arith, cut_balance x f c S, leaving_monotone f N.capacity S c.capacities)

  -- nothing leaves all pools, and nothing enters them
  leaving_all : (f : ℕ → ℕ) → leaving N f all ≡ 0
  unfolding leaving
  leaving_all f = sum_zero N.lines

  entering_all : (f : ℕ → ℕ) → entering N f all ≡ 0
  unfolding entering
  entering_all f = sum_zero N.lines

  pub cut_total : (x f : ℕ → ℕ) → FeasibleUse N x f → amount_in N x all ≡ demand N all
  cut_total x f c = omega (arith, cut_balance x f c all, leaving_all f, entering_all f)
