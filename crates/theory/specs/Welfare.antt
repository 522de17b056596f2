-- Accepted amounts and used amounts turn into each other; the greatest used amounts have the greatest welfare.
use Rattle.std.specs.Prelude.{◌≡◌, refl, Bool, true, false, not, ◌&&◌, cond, ℕ, zero, suc, ◌+◌, ◌*◌, ◌-◌, ◌≤◌, ◌<◌, min, ltb}
use Rattle.std.proofs.Common.{sym, ap, ◌∙◌, true≢false, arith, mul-add, suc-mul, zero-mul, le-ltb}
use Rattle.std.proofs.Math.Nat.{zero-min}
use Rattle.definitions.specs.Arithmetic.{on, sum_to}
use Rattle.laws.specs.Sum.{sum_ext, sum_le, sum_add, sum_swap}
use Rattle.laws.specs.Tests.{Lt?, less, more, lt?}
use Rattle.theory.specs.Subsets.{member}
use Rattle.theory.specs.Network.{Network, SoundNetwork, demand, amount_in}
use Rattle.theory.specs.Rank.{bid_sum, rank_bound}
use Rattle.theory.specs.Balance.{amount_in_same, only, all, arriving, departing, FeasibleUse, cut_bound, cut_total}
use Rattle.theory.specs.Slacks.{line_flow}
use Rattle.theory.specs.Flows.{flow_feasible}
use Rattle.theory.specs.Greatest.{best_used, best_initial, best_within_cuts, Initial}
use Rattle.theory.specs.StrictOrder.{StrictTotal}
use Rattle.theory.specs.Choices.{on_not}

-- a price times an amount, level by level
levels : (d q v : ℕ) → sum_to d (λ t. on (ltb t q) v) ≡ min d q * v
unfolding sum_to
levels zero q v = rw (zero-min q) (omega (arith, zero-mul v))
levels (suc d) q v = go (lt? d q) (levels d q v)
  where
    go : {t : Bool} → Lt? d q t → sum_to d (λ t. on (ltb t q) v) ≡ min d q * v → sum_to d (λ t. on (ltb t q) v) + on t v ≡ min (suc d) q * v
    go (less l) ih =
        let e : min (suc d) q ≡ suc d = omega arith in
        let e' : min d q ≡ d = omega arith in
        let ih' = rw e' at ih in
        rw e (omega (arith, ih', suc-mul d v))
    go (more l) ih =
        let e : min (suc d) q ≡ min d q = omega arith in
        rw e (omega (arith, ih))

unfoldable value_of : Network → (ℕ → ℕ) → (ℕ → ℕ) → ℕ
value_of N price v = sum_to N.bids (λ i. price i * v i)

value_of_levels : (N : Network) (price v : ℕ → ℕ) (d : ℕ) → ((i : ℕ) → i < N.bids → price i ≤ d)
    → value_of N price v ≡ sum_to d (λ t. bid_sum N v (λ i. ltb t (price i)))
unfolding value_of bid_sum
value_of_levels N price v d h =
    sum_ext _ _ (λ i. sum_to d (λ t. on (ltb t (price i)) (v i)))
    (λ i l. let e : min d (price i) ≡ price i = omega (arith, h i l) in sym (levels d (price i) (v i) ∙ ap (λ (z : ℕ). z * v i) e))
    ∙ sum_swap N.bids d (λ i t. on (ltb t (price i)) (v i))

bid_sum_split : (N : Network) (v : ℕ → ℕ) (B : ℕ → Bool) → bid_sum N v B + bid_sum N v (λ i. not (B i)) ≡ bid_sum N v (λ i. true)
unfolding bid_sum
bid_sum_split N v B = sym (sum_add N.bids _ _) ∙ sum_ext _ _ _ (λ i l. on_not (B i) (v i))

not_lt : (t q : ℕ) {s : Bool} → Lt? t q s → not s ≡ true → q ≤ t
not_lt t q (less l) e = absurd (true≢false (sym e))
not_lt t q (more l) e = l

module _ (N : Network) (ok : SoundNetwork N) (before : ℕ → ℕ → Bool) (o : StrictTotal N.bids before)
    (price : ℕ → ℕ) (rises : (i j : ℕ) → i < N.bids → j < N.bids → before j i ≡ true → price j ≤ price i) where
  level_initial : (t : ℕ) → Initial N ok before o (λ i. not (ltb t (price i)))
  level_initial t i j l r h q =
      ap not (le-ltb t (price j) (omega (arith, not_lt t (price i) (lt? t (price i)) h, rises i j l r q)))

  level_le : (y f : ℕ → ℕ) → FeasibleUse N y f → (t : ℕ) → bid_sum N (best_used N before) (λ i. ltb t (price i)) ≤ bid_sum N y (λ i. ltb t (price i))
  level_le y f c t =
      omega (
        arith,
        best_initial N ok before o (λ i. not (ltb t (price i))) (level_initial t),
        rank_bound N y c.sizes (λ s. cut_bound N ok y f c (member s)) (λ i. not (ltb t (price i))),
        bid_sum_split N y (λ i. ltb t (price i)),
        bid_sum_split N (best_used N before) (λ i. ltb t (price i)),
        wholes,
      )
    where
      wholes : bid_sum N (best_used N before) (λ i. true) ≡ bid_sum N y (λ i. true)
      wholes = unfold bid_sum amount_in in (best_within_cuts N ok before o).whole ∙ sym (cut_total N ok y f c)

  -- no feasible clearing has less of price × used
  best_cheapest : (d : ℕ) → ((i : ℕ) → i < N.bids → price i ≤ d) → (y f : ℕ → ℕ) → FeasibleUse N y f → value_of N price (best_used N before) ≤ value_of N price y
  best_cheapest d h y f c =
      omega (arith, value_of_levels N price (best_used N before) d h, value_of_levels N price y d h, sum_le d _ _ (λ t l. level_le y f c t))

-- Accepted amounts: of a sale what is used of it, of a purchase what is not. The same function leads back.
unfoldable pub turn : Network → (ℕ → ℕ) → ℕ → ℕ
turn N a i = cond (N.purchase i) (N.size i - a i) (a i)

pub turn_turn : (N : Network) (a : ℕ → ℕ) (i : ℕ) → a i ≤ N.size i → turn N (turn N a) i ≡ a i
unfolding turn
turn_turn N a i h = go (N.purchase i)
  where
    go : (t : Bool) → cond t (N.size i - cond t (N.size i - a i) (a i)) (cond t (N.size i - a i) (a i)) ≡ a i
    go true = omega arith
    go false = refl

pub turn_same : (N : Network) (a c : ℕ → ℕ) (i : ℕ) → a i ≡ c i → turn N a i ≡ turn N c i
unfolding turn
turn_same N a c i e = ap (λ (z : ℕ). cond (N.purchase i) (N.size i - z) z) e

turn_size : (N : Network) (a : ℕ → ℕ) (i : ℕ) → a i ≤ N.size i → turn N a i ≤ N.size i
unfolding turn
turn_size N a i h = go (N.purchase i)
  where
    go : (t : Bool) → cond t (N.size i - a i) (a i) ≤ N.size i
    go true = omega arith
    go false = omega arith

-- the sum of a over the sales in S
unfoldable pub sold_in : Network → (ℕ → ℕ) → (ℕ → Bool) → ℕ
sold_in N a S = sum_to N.bids (λ i. on (S (N.pool i) && not (N.purchase i)) (a i))

-- the sum of a over the purchases in S
unfoldable pub bought_in : Network → (ℕ → ℕ) → (ℕ → Bool) → ℕ
bought_in N a S = sum_to N.bids (λ i. on (S (N.pool i) && N.purchase i) (a i))

-- A clearing: amounts accepted and flows, as document 01 has them.
pub record FeasibleAmounts (N : Network) (a f : ℕ → ℕ) : Type 0 where
  pub sizes : (i : ℕ) → i < N.bids → a i ≤ N.size i
  pub capacities : (j : ℕ) → j < N.lines → f j ≤ N.capacity j
  pub balance : (p : ℕ) → p < N.pools → sold_in N a (only p) + arriving N f (only p) ≡ bought_in N a (only p) + departing N f (only p)

turn_one : (s t : Bool) (a u : ℕ) → a ≤ u → on s (cond t (u - a) a) + on (s && t) a ≡ on (s && not t) a + on (s && t) u
turn_one true true a u h = omega arith
turn_one true false a u h = omega arith
turn_one false t a u h = refl

turn_amount_in : (N : Network) (a : ℕ → ℕ) → ((i : ℕ) → i < N.bids → a i ≤ N.size i) → (S : ℕ → Bool) → amount_in N (turn N a) S + bought_in N a S ≡ sold_in N a S + demand N S
unfolding turn amount_in bought_in sold_in demand
turn_amount_in N a h S =
    sym (sum_add N.bids _ _)
    ∙ sum_ext _ _ _ (λ i l. turn_one (S (N.pool i)) (N.purchase i) (a i) (N.size i) (h i l))
    ∙ sum_add N.bids _ _

pub clearing_feasible : (N : Network) (a f : ℕ → ℕ) → FeasibleAmounts N a f → FeasibleUse N (turn N a) f
clearing_feasible N a f c = record {
  sizes = λ i l. turn_size N a i (c.sizes i l);
  capacities = c.capacities;
  balance = λ p l. omega (arith, c.balance p l, turn_amount_in N a c.sizes (only p));
}

feasible_clearing : (N : Network) (x f : ℕ → ℕ) → FeasibleUse N x f → FeasibleAmounts N (turn N x) f
feasible_clearing N x f c = record {
  sizes = λ i l. turn_size N x i (c.sizes i l);
  capacities = c.capacities;
  balance = λ p l. omega (
    arith,
    c.balance p l,
    turn_amount_in N (turn N x) (λ i r. turn_size N x i (c.sizes i r)) (only p),
    amount_in_same N (turn N (turn N x)) x (λ i r. turn_turn N x i (c.sizes i r)) (only p),
  );
}

-- what the purchases pay at these prices; welfare is this less what the sales take
unfoldable pub paid : Network → (ℕ → ℕ) → (ℕ → ℕ) → ℕ
paid N price a = sum_to N.bids (λ i. on (N.purchase i) (price i * a i))

-- what the sales take
unfoldable pub taken : Network → (ℕ → ℕ) → (ℕ → ℕ) → ℕ
taken N price a = sum_to N.bids (λ i. on (not (N.purchase i)) (price i * a i))

-- all that the purchases could pay
unfoldable worth : Network → (ℕ → ℕ) → ℕ
worth N price = sum_to N.bids (λ i. on (N.purchase i) (price i * N.size i))

pay_one : (t : Bool) (p a u : ℕ) → a ≤ u → on t (p * a) + p * cond t (u - a) a ≡ on t (p * u) + on (not t) (p * a)
pay_one true p a u h =
    let e : a + (u - a) ≡ u = omega arith in
    omega (arith, mul-add p a (u - a), ap (λ (z : ℕ). p * z) e)
pay_one false p a u h = omega arith

welfare_value : (N : Network) (price a : ℕ → ℕ) → ((i : ℕ) → i < N.bids → a i ≤ N.size i) → paid N price a + value_of N price (turn N a) ≡ worth N price + taken N price a
unfolding paid value_of worth taken turn
welfare_value N price a h =
    sym (sum_add N.bids _ _)
    ∙ sum_ext _ _ _ (λ i l. pay_one (N.purchase i) (price i) (a i) (N.size i) (h i l))
    ∙ sum_add N.bids _ _

-- what is sold is bought, over all pools: so to add one number to every price does not change welfare
pub sold_bought : (N : Network) → SoundNetwork N → (a f : ℕ → ℕ) → FeasibleAmounts N a f → sold_in N a all ≡ bought_in N a all
sold_bought N ok a f c = omega (arith, turn_amount_in N a c.sizes all, cut_total N ok (turn N a) f (clearing_feasible N a f c))

module _ (N : Network) (ok : SoundNetwork N) (before : ℕ → ℕ → Bool) (o : StrictTotal N.bids before)
    (price : ℕ → ℕ) (rises : (i j : ℕ) → i < N.bids → j < N.bids → before j i ≡ true → price j ≤ price i) where
  pub best_clearing : FeasibleAmounts N (turn N (best_used N before)) (line_flow N (best_used N before))
  best_clearing = feasible_clearing N (best_used N before) (line_flow N (best_used N before)) (flow_feasible N (best_used N before) (best_within_cuts N ok before o))

  value_of_back : value_of N price (turn N (turn N (best_used N before))) ≡ value_of N price (best_used N before)
  unfolding value_of
  value_of_back = sum_ext _ _ _ (λ i l. ap (λ (z : ℕ). price i * z) (turn_turn N (best_used N before) i ((best_within_cuts N ok before o).sizes i l)))

  -- the greatest welfare: paid - taken is at least any other clearing's
  pub best_welfare : (d : ℕ) → ((i : ℕ) → i < N.bids → price i ≤ d) → (a f : ℕ → ℕ) → FeasibleAmounts N a f
      → paid N price a + taken N price (turn N (best_used N before)) ≤ paid N price (turn N (best_used N before)) + taken N price a
  best_welfare d h a f c =
      omega (
        arith,
        welfare_value N price a c.sizes,
        welfare_value N price (turn N (best_used N before)) best_clearing.sizes,
        value_of_back,
        best_cheapest N ok before o price rises d h (turn N a) f (clearing_feasible N a f c),
      )
