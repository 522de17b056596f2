-- The flows found line by line balance every pool (`flow_feasible`), never ship both ways (`never_both`), and are the first in the lines' order (`flow_first`).
use Rattle.std.specs.Prelude.{◌≡◌, Bool, ◌⊎◌, true, false, ℕ, zero, suc, ◌+◌, ◌-◌, ◌≤◌, ◌<◌}
use Rattle.std.proofs.Common.{sym, ◌∙◌, subst, true≢false, inl, inr, add-zero, add-suc, eq-zero-or-pos, ap, arith}
use Rattle.std.proofs.Math.Decide.{dec_lt, ℕ_discrete}
use Rattle.definitions.specs.Arithmetic.{on}
use Rattle.laws.specs.Sum.{sum_ext, sum_le, sum_le_at}
use Rattle.theory.specs.Subsets.{member}
use Rattle.theory.specs.Network.{goes_out, comes_in, Network, SoundNetwork, demand, leaving, entering, cut, amount_in}
use Rattle.theory.specs.Balance.{only, complement, all, arriving, departing, FeasibleUse, net, cut_balance, entering_leaving, leaving_entering, amount_in_complement, demand_complement}
use Rattle.theory.specs.Choices.{on_monotone}
use Rattle.theory.specs.Slacks.{rest_of, slack, rest, line_flow, Binds, rest_at, low, high, low_fixed, low_open, high_fixed, high_open, flow_rest, SlackBalance, flow_enters, balance_after}

-- used amounts that are within sizes and cuts and meet the whole demand
pub record WithinCuts (N : Network) (x : ℕ → ℕ) : Type 0 where
  pub ok : SoundNetwork N
  pub sizes : (i : ℕ) → i < N.bids → x i ≤ N.size i
  pub cuts : (S : ℕ → Bool) → amount_in N x S ≤ cut N S
  pub whole : amount_in N x all ≡ demand N all

module _ (N : Network) (x : ℕ → ℕ) (given : WithinCuts N x) where
  high_end : (S : ℕ → Bool) → leaving N (high N x N.lines) S ≡ leaving N (line_flow N x) S
  unfolding leaving
  high_end S = sum_ext _ _ _ (λ j l. ap (on (goes_out N S j)) (high_fixed N x N.lines j l))

  low_end : (S : ℕ → Bool) → entering N (low N x N.lines) S ≡ entering N (line_flow N x) S
  unfolding entering
  low_end S = sum_ext _ _ _ (λ j l. ap (on (comes_in N S j)) (low_fixed N x N.lines j l))

  balance_end : (S : ℕ → Bool) → slack N x N.lines S + amount_in N x S + entering N (line_flow N x) S ≡ demand N S + leaving N (line_flow N x) S
  balance_end S = omega (arith, balance_after N given.ok x given.cuts N.lines (omega arith) S, high_end S, low_end S)

  slack_end : (S : ℕ → Bool) → slack N x N.lines S ≡ 0
  slack_end S =
      omega (arith, balance_end S, balance_end (complement S), entering_leaving N (line_flow N x) S, leaving_entering N (line_flow N x) S, amount_in_complement N x S, demand_complement N S, given.whole)

  flow_balance : (S : ℕ → Bool) → amount_in N x S + arriving N (line_flow N x) S ≡ demand N S + departing N (line_flow N x) S
  flow_balance S = omega (arith, balance_end S, slack_end S, net N (line_flow N x) S)

  flow_within : (j : ℕ) → line_flow N x j ≤ N.capacity j
  flow_within j = omega (arith, flow_rest N x j)

  pub flow_feasible : FeasibleUse N x (line_flow N x)
  flow_feasible = record { sizes = given.sizes; capacities = λ j l. flow_within j; balance = λ p l. flow_balance (only p) }

  pub slack_balance : (k : ℕ) → k ≤ N.lines → SlackBalance N x k
  slack_balance k l = balance_after N given.ok x given.cuts k l

  -- a slack never grows
  slack_step : (k : ℕ) (S : ℕ → Bool) → slack N x (suc k) S ≤ slack N x k S
  unfolding slack
  slack_step k S = omega arith

  slack_down : (k d : ℕ) (S : ℕ → Bool) → slack N x (k + d) S ≤ slack N x k S
  slack_down k zero S = rw add-zero (omega arith)
  slack_down k (suc d) S = rw add-suc (omega (arith, slack_down k d S, slack_step (k + d) S))

  -- a line that carries something leaves a set without slack
  tight : (j : ℕ) → 0 < line_flow N x j → (s : ℕ) × (member s (N.source j) ≡ true) × (member s (N.target j) ≡ false) × (slack N x (suc j) (member s) ≡ 0)
  unfolding line_flow rest slack
  tight j h = go (rest_at N (slack N x j) j)
    where
      go : (rest_of N (slack N x j) j ≡ N.capacity j) ⊎ Binds N (slack N x j) j
          → (s : ℕ) × (member s (N.source j) ≡ true) × (member s (N.target j) ≡ false) × (slack N x (suc j) (member s) ≡ 0)
      go (inl e) = absurd (omega arith)
      go (inr e) = (e.0, e.1, e.2, rw (e.1, e.2) (omega (arith, e.3)))

  -- never both ways
  one_way : (j k : ℕ) → j < k → k < N.lines → N.source k ≡ N.target j → N.target k ≡ N.source j → 0 < line_flow N x j → line_flow N x k ≡ 0
  one_way j k l r p q h =
      let t = tight j h in
      let S = member t.0 in
      let e : suc j + (k - suc j) ≡ k = omega arith in
      let d = subst (λ (z : ℕ). slack N x z S ≤ slack N x (suc j) S) e (slack_down (suc j) (k - suc j) S) in
      omega (arith, t.3, d, flow_enters N given.ok x k (slack_balance k (omega arith)) r S (ap S p ∙ t.2) (ap S q ∙ t.1))

  no_loop : (k : ℕ) → N.source k ≡ N.target k → line_flow N x k ≡ 0
  no_loop k e = go (eq-zero-or-pos (line_flow N x k))
    where
      go : (line_flow N x k ≡ 0) ⊎ (0 < line_flow N x k) → line_flow N x k ≡ 0
      go (inl p) = p
      go (inr p) = let t = tight k p in absurd (true≢false (sym t.1 ∙ ap (member t.0) e ∙ t.2))

  pub never_both : (j k : ℕ) → j < N.lines → k < N.lines → N.source k ≡ N.target j → N.target k ≡ N.source j → 0 < line_flow N x j → line_flow N x k ≡ 0
  never_both j k l r p q h = go (ℕ_discrete j k) (dec_lt j k) (eq-zero-or-pos (line_flow N x k))
    where
      go : Dec (j ≡ k) → Dec (j < k) → (line_flow N x k ≡ 0) ⊎ (0 < line_flow N x k) → line_flow N x k ≡ 0
      go d e (inl z) = z
      go (yes d) e (inr z) = no_loop k (p ∙ ap N.target d)
      go (no d) (yes e) (inr z) = one_way j k e r p q h
      go (no d) (no e) (inr z) = absurd (omega (arith, one_way k j (omega arith) l (sym q) (sym p) z))

  -- the first flows in dictionary order, by lines
  under_high : (k j f : ℕ) → (j < k → f ≡ line_flow N x j) → f ≤ N.capacity j → f ≤ high N x k j
  under_high k j f e c = go (dec_lt j k)
    where
      go : Dec (j < k) → f ≤ high N x k j
      go (yes l) = omega (arith, e l, high_fixed N x k j l)
      go (no l) = omega (arith, high_open N x k j (omega arith))

  over_low : (k j f : ℕ) → (j < k → f ≡ line_flow N x j) → low N x k j ≤ f
  over_low k j f e = go (dec_lt j k)
    where
      go : Dec (j < k) → low N x k j ≤ f
      go (yes l) = omega (arith, e l, low_fixed N x k j l)
      go (no l) = omega (arith, low_open N x k j (omega arith))

  pub flow_first : (f : ℕ → ℕ) → FeasibleUse N x f → (k : ℕ) → k < N.lines → ((j : ℕ) → j < k → f j ≡ line_flow N x j) → line_flow N x k ≤ f k
  unfolding line_flow rest leaving entering
  flow_first f c k l e = go (rest_at N (slack N x k) k)
    where
      open_out : (S : ℕ → Bool) → S (N.source k) ≡ true → S (N.target k) ≡ false → leaving N f S + (N.capacity k - f k) ≤ leaving N (high N x k) S
      open_out S p q =
          sum_le_at N.lines _ _ (N.capacity k - f k) k l (rw (p, q) (omega (arith, high_open N x k k (omega arith), c.capacities k l)))
          (λ j r. on_monotone (goes_out N S j) _ _ (under_high k j (f j) (e j) (c.capacities j r)))

      open_in : (S : ℕ → Bool) → entering N (low N x k) S ≤ entering N f S
      open_in S = sum_le N.lines _ _ (λ j r. on_monotone (comes_in N S j) _ _ (over_low k j (f j) (e j)))

      go : (rest_of N (slack N x k) k ≡ N.capacity k) ⊎ Binds N (slack N x k) k
          → N.capacity k - rest_of N (slack N x k) k ≤ f k
      go (inl t) = omega arith
      go (inr t) =
          let S = member t.0 in
          omega (arith, t.3, slack_balance k (omega arith) S, cut_balance N given.ok x f c S, open_out S t.1 t.2, open_in S)
