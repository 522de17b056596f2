-- The closed forms are a best and permitted clearing with the first flows; none of their differences is cut off at 0, and every number is small.
use Rattle.std.specs.Prelude.{◌≡◌, Bool, true, false, ◌&&◌, eqb, ltb}
use Rattle.std.proofs.Common.{refl, sym, ap, ap₂, ◌∙◌, mul-le-mul_right, pow_pos, not, cond, ℕ, zero, suc, ◌+◌, ◌*◌, ◌-◌, ◌≤◌, ◌<◌, ◌/◌, ◌%◌, ◌^◌, min, arith}
use Rattle.std.proofs.Math.Arith.{digits_div, digits_mod}
use Rattle.definitions.specs.Limits.{bid_limit, pool_limit, price_limit, quantity_limit, capacity_limit, greatest_positive}
use Rattle.definitions.specs.Arithmetic.{on, sum_to}
use Rattle.definitions.specs.Book.{Book, purchase, size, capacity}
use Rattle.definitions.specs.Clearing.{Clearing, Best, Permitted, before}
use Rattle.definitions.specs.Calls.{AcceptedBook}
use Rattle.laws.specs.Tests.{on_le}
use Rattle.laws.specs.Sum.{sum_ext, sum_add, sum_one, sum_bound}
use Rattle.laws.specs.Extremes.{min_to, min_ext, min_le_start}
use Rattle.laws.specs.AcceptedBook.{Sound, accepted_sound, pool_index, raised_price}
use Rattle.theory.specs.Network.{◌adding◌}
use Rattle.theory.specs.Choices.{on_add, on_on, on_and}
use Rattle.theory.specs.Subsets.{member}
use Rattle.theory.specs.Network as network
use Rattle.theory.specs.Rank as ranks
use Rattle.theory.specs.Balance.{by_pool, eqb_symmetric}
use Rattle.theory.specs.Slacks as slacks
use Rattle.theory.specs.Greatest as greatest
use Rattle.theory.specs.Welfare.{turn}
use Rattle.theory.specs.MeritOrder.{key_low, key_high}
use Rattle.theory.specs.Grid.{sum_rows}
use Rattle.theory.specs.Bounds.{rank_masks, cost_with, cost_small, slack_next}
use Rattle.theory.specs.BookNetwork.{network_of, network_sound, before_is, before_strict_total}
use Rattle.theory.specs.FlowOrder.{FirstFlows}
use Rattle.theory.specs.SameClearing.{best_same, permitted_same, first_flows_same}
use Rattle.theory.specs.CutClearing.{cut_used, cut_clearing, within_cuts, cut_best, cut_permitted}
use Rattle.theory.specs.BestClearing.{best_unique}
use Rattle.theory.specs.ClosedForms.{leaves, subset_sum, key, pool_size, demand, cut, size_before, size_with, cost, rank, used_amount, accepted_amount, placement, slack, rest_of, flow_of, taken_of, slack_after, line_flow, closed_clearing}
use Rattle.theory.specs.ClosedBest.{size_total, amount_limit}
use Rattle.theory.proofs.CutClearing.{cut_first_flows}

-- the least does not depend on where it starts, if it starts high enough
min_start : (d k : ℕ) (f : ℕ → ℕ) → 0 < k → f 0 ≤ d → min_to d k f ≡ min_to (f 0) k f
unfolding min_to
min_start d zero f p h = omega arith
min_start d (suc zero) f p h = omega arith
min_start d (suc (suc k)) f p h = ap (λ (x : ℕ). min x (f (suc k))) (min_start d (suc k) f (omega arith) h)

-- what comes off a slack, as a choice and as a sum
taken_sum : (s t : Bool) (r f : ℕ) → cond (s && not t) r (on (t && not s) f) ≡ on (s && not t) r + on (not s && t) f
taken_sum true true r f = refl
taken_sum true false r f = omega arith
taken_sum false true r f = omega arith
taken_sum false false r f = refl

taken_less : (s t : Bool) (y r f : ℕ) → y - cond (s && not t) r (on (t && not s) f) ≡ y - on (s && not t) r - on (not s && t) f
taken_less s t y r f = omega (arith, taken_sum s t r f)

module _ (B : Book) (ok : Sound B) where
  -- ---- merit by keys

  pub before_low : (j i : ℕ) → j < B.n → i < B.n → j < i → before B j i ≡ ltb (key B j) (2 * raised_price B i + 1)
  before_low j i l r h = before_is B ok j i l r ∙ key_low (λ i. raised_price B i) (λ i. purchase B i) j i h

  pub before_high : (j i : ℕ) → j < B.n → i < B.n → i < j → before B j i ≡ ltb (2 * raised_price B j) (key B i)
  before_high j i l r h = before_is B ok j i l r ∙ key_high (λ i. raised_price B i) (λ i. purchase B i) j i h

  pub before_self : (i : ℕ) → i < B.n → before B i i ≡ false
  before_self i l = (before_strict_total B ok).irreflexive i l

  pub key_small : (i : ℕ) → i < B.n → key B i ≤ 4 * price_limit + 1
  key_small i l = omega (arith, ok.price_small i l, on_le (purchase B i) 1)

  -- ---- cuts

  demand_is : (S : ℕ) → subset_sum B.m (demand B) S ≡ network.demand (network_of B) (member S)
  unfolding demand subset_sum network.demand
  demand_is S =
      sum_ext B.m _ _ (λ p l. ap (on (member S p)) (sum_ext B.n _ _ (λ i r. on_on (purchase B i) (eqb (pool_index B i) p) (size B i))))
      ∙ by_pool B.n B.m (λ i. pool_index B i) (λ i. on (purchase B i) (size B i)) ok.pool_index_lem (member S)
      ∙ sum_ext B.n _ _ (λ i r. sym (on_and (member S (pool_index B i)) (purchase B i) (size B i)))

  leaving_is : (S : ℕ) → sum_to B.m (λ a. sum_to B.m (λ b. on (leaves S a b) (capacity B a b))) ≡ network.leaving (network_of B) (λ k. capacity B (k / B.m) (k % B.m)) (member S)
  unfolding network.leaving
  leaving_is S =
      sum_ext B.m _ _ (λ a x. sum_ext B.m _ _ (λ b y. line a b y))
      ∙ sym (sum_rows B.m B.m (λ k. on (leaves S (k / B.m) (k % B.m)) (capacity B (k / B.m) (k % B.m))))
    where
      line : (a b : ℕ) → b < B.m
          → on (leaves S a b) (capacity B a b) ≡ on (leaves S ((a * B.m + b) / B.m) ((a * B.m + b) % B.m)) (capacity B ((a * B.m + b) / B.m) ((a * B.m + b) % B.m))
      line a b y = rw (digits_div a y, digits_mod a y) refl

  cut_is : (S : ℕ) → cut B S ≡ network.cut (network_of B) (member S)
  unfolding cut network.cut
  cut_is S = ap₂ (λ (u v : ℕ). u + v) (demand_is S) (leaving_is S)

  -- ---- ranks

  outside_is : (i S : ℕ) → sum_to B.m (λ p. on (not (member S p)) (size_before B i p)) ≡ ranks.outside (network_of B) (greatest.ahead (before B) i) (member S)
  unfolding size_before ranks.outside
  outside_is i S =
      sum_ext B.m _ _ (λ p l. ap (on (not (member S p))) (sum_ext B.n _ _ (λ j r. on_on (before B j i) (eqb (pool_index B j) p) (size B j))))
      ∙ by_pool B.n B.m (λ j. pool_index B j) (λ j. on (before B j i) (size B j)) ok.pool_index_lem (λ p. not (member S p))
      ∙ sum_ext B.n _ _ (λ j r. on_on (not (member S (pool_index B j))) (before B j i) (size B j) ∙ sym (on_and (before B j i) (not (member S (pool_index B j))) (size B j)))

  own_is : (i S : ℕ) → i < B.n → sum_to B.m (λ p. on (not (member S p)) (pool_size B i p)) ≡ on (not (member S (pool_index B i))) (size B i)
  own_is i S l =
      sum_ext B.m _ _ (λ p r.
      on_on (not (member S p)) (eqb (pool_index B i) p) (size B i) ∙ ap (λ (x : Bool). on x (on (not (member S p)) (size B i))) (eqb_symmetric (pool_index B i) p))
      ∙ sum_one B.m (pool_index B i) (λ p. on (not (member S p)) (size B i)) (ok.pool_index_lem i l)

  size_before_cost : (i S : ℕ) → cost B (size_before B i) S ≡ ranks.cost (network_of B) (greatest.ahead (before B) i) (member S)
  unfolding ranks.cost
  size_before_cost i S = ap₂ (λ (u v : ℕ). u + v) (cut_is S) (outside_is i S)

  size_with_cost : (i S : ℕ) → i < B.n → cost B (size_with B i) S ≡ ranks.cost (network_of B) (greatest.ahead (before B) i adding i) (member S)
  unfolding size_with
  size_with_cost i S l =
      omega (
        arith,
        sum_ext B.m (λ p. on (not (member S p)) (size_before B i p + pool_size B i p)) (λ p. on (not (member S p)) (size_before B i p) + on (not (member S p)) (pool_size B i p))
            (λ p r. on_add (not (member S p)) (size_before B i p) (pool_size B i p)),
        sum_add B.m (λ p. on (not (member S p)) (size_before B i p)) (λ p. on (not (member S p)) (pool_size B i p)),
        own_is i S l,
        size_before_cost i S,
        cost_with (network_of B) (greatest.ahead (before B) i) (member S) i l (before_self i l),
      )

  costs_small : (A S : ℕ → Bool) → ranks.cost (network_of B) A S ≤ amount_limit
  costs_small A S =
      cost_small (network_of B) bid_limit (pool_limit * pool_limit) quantity_limit capacity_limit ok.bids (lines B.m ok.pools) ok.size_small
      (λ k l. ok.capacity_small (k / B.m) (k % B.m) ((network_sound B ok).source_below k l) ((network_sound B ok).target_below k l)) A S
    where
      lines : (m : ℕ) → m ≤ pool_limit → m * m ≤ pool_limit * pool_limit
      lines m h = omega (arith, mul-le-mul_right m h, h)

  rank_is : (A : ℕ → Bool) (x : ℕ → ℕ) → ((S : ℕ) → cost B x S ≡ ranks.cost (network_of B) A (member S)) → rank B x ≡ ranks.rank (network_of B) A
  unfolding rank
  rank_is A x e =
      min_ext greatest_positive (2 ^ B.m) (λ S. cost B x S) (λ S. ranks.cost (network_of B) A (member S)) (λ S l. e S)
      ∙ min_start greatest_positive (2 ^ B.m) (λ S. ranks.cost (network_of B) A (member S)) (pow_pos B.m) (omega (arith, costs_small A (member 0)))
      ∙ sym (rank_masks (network_of B) A)

  rank_before : (i : ℕ) → rank B (size_before B i) ≡ ranks.rank (network_of B) (greatest.ahead (before B) i)
  rank_before i = rank_is (greatest.ahead (before B) i) (size_before B i) (λ S. size_before_cost i S)

  rank_with : (i : ℕ) → i < B.n → rank B (size_with B i) ≡ ranks.rank (network_of B) (greatest.ahead (before B) i adding i)
  rank_with i l = rank_is (greatest.ahead (before B) i adding i) (size_with B i) (λ S. size_with_cost i S l)

  pub used_is_cut : (i : ℕ) → i < B.n → used_amount B i ≡ cut_used B i
  unfolding used_amount greatest.best_used
  used_is_cut i l = ap₂ (λ (u v : ℕ). u - v) (rank_with i l) (rank_before i)

  accepted_is_cut : (i : ℕ) → i < B.n → accepted_amount B i ≡ (cut_clearing B).accepted i
  unfolding accepted_amount turn
  accepted_is_cut i l = ap (λ (v : ℕ). cond (purchase B i) (size B i - v) v) (used_is_cut i l)

  -- ---- slacks and flows

  placement_is : (S : ℕ) → subset_sum B.m (placement B) S ≡ network.amount_in (network_of B) (cut_used B) (member S)
  unfolding placement subset_sum network.amount_in
  placement_is S =
      sum_ext B.m _ _ (λ p l. ap (on (member S p)) (sum_ext B.n _ _ (λ i r. ap (on (eqb (pool_index B i) p)) (used_is_cut i r))))
      ∙ by_pool B.n B.m (λ i. pool_index B i) (cut_used B) ok.pool_index_lem (member S)

  rest_is : (k : ℕ) → ((S : ℕ) → slack_after B k S ≡ slacks.slack (network_of B) (cut_used B) k (member S)) → rest_of B (slack_after B k) (k / B.m) (k % B.m) ≡ slacks.rest (network_of B) (cut_used B) k
  unfolding rest_of slacks.rest slacks.rest_of
  rest_is k h = min_ext (capacity B (k / B.m) (k % B.m)) (2 ^ B.m) _ _ (λ S l. rw (h S) refl)

  flow_is : (k : ℕ) → ((S : ℕ) → slack_after B k S ≡ slacks.slack (network_of B) (cut_used B) k (member S)) → line_flow B k ≡ slacks.line_flow (network_of B) (cut_used B) k
  unfolding flow_of slacks.line_flow
  flow_is k h = ap (λ (v : ℕ). capacity B (k / B.m) (k % B.m) - v) (rest_is k h)

  taken_is : (k S : ℕ) → ((S : ℕ) → slack_after B k S ≡ slacks.slack (network_of B) (cut_used B) k (member S))
      → taken_of B (slack_after B k) (k / B.m) (k % B.m) S
      ≡ cond (leaves S (k / B.m) (k % B.m)) (slacks.rest (network_of B) (cut_used B) k) (on (leaves S (k % B.m) (k / B.m)) (slacks.line_flow (network_of B) (cut_used B) k))
  taken_is k S h = ap₂ (λ (r f : ℕ). cond (leaves S (k / B.m) (k % B.m)) r (on (leaves S (k % B.m) (k / B.m)) f)) (rest_is k h) (flow_is k h)

  pub slack_is : (k S : ℕ) → slack_after B k S ≡ slacks.slack (network_of B) (cut_used B) k (member S)
  unfolding slack_after slack slacks.slack slacks.rest slacks.line_flow
  slack_is zero S = ap₂ (λ (u v : ℕ). u - v) (cut_is S) (placement_is S)
  slack_is (suc k) S =
      ap₂ (λ (u v : ℕ). u - v) (slack_is k S) (taken_is k S (slack_is k))
      ∙ taken_less (member S (k / B.m)) (member S (k % B.m)) (slacks.slack (network_of B) (cut_used B) k (member S))
      (slacks.rest (network_of B) (cut_used B) k) (slacks.line_flow (network_of B) (cut_used B) k)

  -- ---- no difference is cut off at 0

  pub used_and_rank : (i : ℕ) → i < B.n → used_amount B i + rank B (size_before B i) ≡ rank B (size_with B i)
  used_and_rank i l =
      omega (arith, used_is_cut i l, rank_with i l, rank_before i, greatest.gain (network_of B) (network_sound B ok) (before B) (before_strict_total B ok) i)

  pub used_size : (i : ℕ) → i < B.n → used_amount B i ≤ size B i
  used_size i l = omega (arith, used_is_cut i l, (within_cuts B ok).sizes i l)

  pub placement_cut : (S : ℕ) → subset_sum B.m (placement B) S ≤ cut B S
  placement_cut S = omega (arith, placement_is S, cut_is S, (within_cuts B ok).cuts (member S))

  pub flow_and_rest : (x : ℕ → ℕ) (a b : ℕ) → flow_of B x a b + rest_of B x a b ≡ capacity B a b
  unfolding flow_of rest_of
  flow_and_rest x a b = omega (arith, min_le_start (capacity B a b) (2 ^ B.m) (λ S. cond (leaves S a b) (x S) (capacity B a b)))

  pub taken_slack : (k S : ℕ) → k < B.m * B.m → taken_of B (slack_after B k) (k / B.m) (k % B.m) S ≤ slack_after B k S
  taken_slack k S l =
      omega (
        arith,
        taken_is k S (slack_is k),
        taken_sum (member S (k / B.m)) (member S (k % B.m)) (slacks.rest (network_of B) (cut_used B) k) (slacks.line_flow (network_of B) (cut_used B) k),
        slack_is k S,
        slack_next (network_of B) (cut_used B) (within_cuts B ok) k l (member S),
      )

  -- ---- bounds

  sizes_small : (f : ℕ → ℕ) → ((i : ℕ) → i < B.n → f i ≤ size B i) → sum_to B.n f ≤ size_total
  sizes_small f h =
      omega (arith, sum_bound B.n quantity_limit f (λ i l. omega (arith, h i l, ok.size_small i l)), mul-le-mul_right quantity_limit ok.bids)

  on_on_le : (s t : Bool) (v : ℕ) → on s (on t v) ≤ v
  on_on_le s t v = omega (arith, on_le s (on t v), on_le t v)

  pub demand_small : (p : ℕ) → demand B p ≤ size_total
  unfolding demand
  demand_small p = sizes_small _ (λ i l. on_on_le (purchase B i) (eqb (pool_index B i) p) (size B i))

  pub size_before_small : (i p : ℕ) → size_before B i p ≤ size_total
  unfolding size_before
  size_before_small i p = sizes_small _ (λ j l. on_on_le (before B j i) (eqb (pool_index B j) p) (size B j))

  pub placement_small : (p : ℕ) → placement B p ≤ size_total
  unfolding placement
  placement_small p = sizes_small _ (λ i l. omega (arith, on_le (eqb (pool_index B i) p) (used_amount B i), used_size i l))

  pub cut_small : (S : ℕ) → cut B S ≤ amount_limit
  cut_small S = omega (arith, size_before_cost 0 S, costs_small (greatest.ahead (before B) 0) (member S))

  pub slack_small : (k S : ℕ) → slack_after B k S ≤ amount_limit
  unfolding slack_after slack
  slack_small zero S = omega (arith, cut_small S)
  slack_small (suc k) S = omega (arith, slack_small k S)

-- ---- the closed forms are a best clearing

pub closed_best : (B : Book) → AcceptedBook B → Best B (closed_clearing B) × Permitted B (closed_clearing B) × FirstFlows B (closed_clearing B)
closed_best B h =
    let ok = accepted_sound B h in
    let amounts : (i : ℕ) → i < B.n → (cut_clearing B).accepted i ≡ accepted_amount B i = λ i l. sym (accepted_is_cut B ok i l) in
    let flows : (a b : ℕ) → a < B.m → b < B.m → (cut_clearing B).flow a b ≡ line_flow B (a * B.m + b) = λ a b l r. sym (flow_is B ok (a * B.m + b) (slack_is B ok (a * B.m + b))) in (
      best_same B (cut_clearing B) (closed_clearing B) amounts flows (cut_best B ok),
      permitted_same B (cut_clearing B) (closed_clearing B) amounts flows (cut_permitted B ok),
      first_flows_same B (cut_clearing B) (closed_clearing B) amounts flows (cut_first_flows B ok),
    )

-- so is every clearing with these numbers
pub closed_clearing_lem : (B : Book) → AcceptedBook B → (c : Clearing)
    → ((i : ℕ) → i < B.n → c.accepted i ≡ accepted_amount B i) → ((a b : ℕ) → a < B.m → b < B.m → c.flow a b ≡ line_flow B (a * B.m + b)) → Best B c × Permitted B c × FirstFlows B c
closed_clearing_lem B h c e f =
    let closed = closed_best B h in
    let amounts : (i : ℕ) → i < B.n → accepted_amount B i ≡ c.accepted i = λ i l. sym (e i l) in
    let flows : (a b : ℕ) → a < B.m → b < B.m → line_flow B (a * B.m + b) ≡ c.flow a b = λ a b l r. sym (f a b l r) in (
      best_same B (closed_clearing B) c amounts flows closed.0,
      permitted_same B (closed_clearing B) c amounts flows closed.1,
      first_flows_same B (closed_clearing B) c amounts flows closed.2,
    )

-- every best clearing accepts what the closed forms accept
pub closed_accepted : (B : Book) → AcceptedBook B → (c : Clearing) → Best B c → (i : ℕ) → i < B.n → c.accepted i ≡ accepted_amount B i
closed_accepted B h c b i l = best_unique B h c (closed_clearing B) b (closed_best B h).0 i l
