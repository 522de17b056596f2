-- Line by line, for used amounts within all cuts: what each line leaves of its capacity, its flow, and what slack each set of pools keeps.
-- After each line slacks, used amounts and flows balance (`balance_after`).
use Rattle.std.specs.Prelude.{◌≡◌, Bool, not, ◌&&◌, ◌||◌, ◌⊎◌, ℕ, zero, suc, ◌+◌, ◌-◌, ◌≤◌, ◌<◌, ◌^◌, eqb, ltb, refl, true, false, cond}
use Rattle.std.proofs.Common.{ap, sym, ap₂, ◌∙◌, inl, inr, lt-ltb, le-ltb, arith}
use Rattle.definitions.specs.Arithmetic.{on}
use Rattle.laws.specs.Extremes.{min_to, min_le_start, min_le_at, min_attained}
use Rattle.laws.specs.Sum.{sum_ext, sum_add, sum_zero, sum_one}
use Rattle.laws.specs.Tests.{Eq?, same, diff, eq?, Lt?, less, more, lt?}
use Rattle.theory.specs.Subsets.{LooksBelow, member, mask, mask_lt, mask_member}
use Rattle.theory.specs.Network.{goes_out, comes_in, Network, SoundNetwork, demand, leaving, entering, cut, amount_in, ◌∪◌, ◌∩◌, lines_submodular_at, demand_modular, demand_ext, leaving_ext}
use Rattle.theory.specs.Choices.{on_zero}

-- what is left of line j: the least of its capacity and the slacks of the sets that it leaves
unfoldable pub rest_of : Network → ((ℕ → Bool) → ℕ) → ℕ → ℕ
rest_of N sl j = min_to (N.capacity j) (2 ^ N.pools) (λ s. cond (goes_out N (member s) j) (sl (member s)) (N.capacity j))

-- what slack set S has after k lines
unfoldable pub slack : Network → (ℕ → ℕ) → ℕ → (ℕ → Bool) → ℕ
slack N x zero S = cut N S - amount_in N x S
slack N x (suc k) S =
    slack N x k S - on (goes_out N S k) (rest_of N (slack N x k) k)
    - on (comes_in N S k) (N.capacity k - rest_of N (slack N x k) k)

-- what line k leaves of its capacity, with the slacks of that time
unfoldable pub rest : Network → (ℕ → ℕ) → ℕ → ℕ
rest N x k = rest_of N (slack N x k) k

-- what line k carries
unfoldable pub line_flow : Network → (ℕ → ℕ) → ℕ → ℕ
line_flow N x k = N.capacity k - rest N x k

-- the laws of rest_of
rest_within : (N : Network) (sl : (ℕ → Bool) → ℕ) (j : ℕ) → rest_of N sl j ≤ N.capacity j
unfolding rest_of
rest_within N sl j = min_le_start _ _ _

rest_le : (N : Network) → SoundNetwork N → (sl : (ℕ → Bool) → ℕ) → LooksBelow N.pools sl → (j : ℕ) → j < N.lines → (S : ℕ → Bool)
    → S (N.source j) ≡ true → S (N.target j) ≡ false → rest_of N sl j ≤ sl S
unfolding rest_of
rest_le N k sl e j l S p q =
    let s = mask N.pools S in
    let a = min_le_at (N.capacity j) (2 ^ N.pools) (λ s. cond (goes_out N (member s) j) (sl (member s)) (N.capacity j)) s (mask_lt N.pools S) in
    let a' = rw (mask_member N.pools S (N.source j) (k.source_below j l), mask_member N.pools S (N.target j) (k.target_below j l), p, q) at a in
    omega (arith, a', e (member s) S (mask_member N.pools S))

-- set s, which line j leaves, has no more slack than is left of the line
abbrev pub Binds : (N : Network) (sl : (ℕ → Bool) → ℕ) (j : ℕ) → Type 0
Binds N sl j = (s : ℕ) × (member s (N.source j) ≡ true) × (member s (N.target j) ≡ false) × (rest_of N sl j ≡ sl (member s))

pub rest_at : (N : Network) (sl : (ℕ → Bool) → ℕ) (j : ℕ)
    → (rest_of N sl j ≡ N.capacity j) ⊎ Binds N sl j
unfolding rest_of
rest_at N sl j = go (min_attained (N.capacity j) (2 ^ N.pools) (λ s. cond (goes_out N (member s) j) (sl (member s)) (N.capacity j)))
  where
    pick : (s : ℕ) (y z : Bool) → member s (N.source j) ≡ y → member s (N.target j) ≡ z → rest_of N sl j ≡ cond (y && not z) (sl (member s)) (N.capacity j)
        → (rest_of N sl j ≡ N.capacity j) ⊎ Binds N sl j
    pick s true false p q e = inr (s, p, q, e)
    pick s true true p q e = inl e
    pick s false true p q e = inl e
    pick s false false p q e = inl e

    go : (rest_of N sl j ≡ N.capacity j) ⊎ ((s : ℕ) × (s < 2 ^ N.pools) × (rest_of N sl j ≡ cond (goes_out N (member s) j) (sl (member s)) (N.capacity j)))
        → (rest_of N sl j ≡ N.capacity j) ⊎ Binds N sl j
    go (inl p) = inl p
    go (inr p) = pick p.0 (member p.0 (N.source j)) (member p.0 (N.target j)) refl refl p.2

-- after k lines: the least flow of line j that is still open
unfoldable pub low : Network → (ℕ → ℕ) → ℕ → ℕ → ℕ
low N x k j = on (ltb j k) (line_flow N x j)

-- the greatest
unfoldable pub high : Network → (ℕ → ℕ) → ℕ → ℕ → ℕ
high N x k j = cond (ltb j k) (line_flow N x j) (N.capacity j)

high_one : (j k f r c : ℕ) {t t' e : Bool} → Lt? j k t → Lt? j (suc k) t' → Eq? j k e → f + r ≡ c → cond t f c ≡ cond t' f c + on e r
high_one j k f r c (less p) (less q) (diff d) h = omega arith
high_one j k f r c (less p) (less q) (same d) h = omega arith
high_one j k f r c (less p) (more q) (diff d) h = omega arith
high_one j k f r c (less p) (more q) (same d) h = omega arith
high_one j k f r c (more p) (less q) (diff d) h = omega arith
high_one j k f r c (more p) (less q) (same d) h = omega arith
high_one j k f r c (more p) (more q) (diff d) h = omega arith
high_one j k f r c (more p) (more q) (same d) h = omega arith

low_one : (j k f : ℕ) {t t' e : Bool} → Lt? j k t → Lt? j (suc k) t' → Eq? j k e → on t' f ≡ on t f + on e f
low_one j k f (less p) (less q) (diff d) = omega arith
low_one j k f (less p) (less q) (same d) = omega arith
low_one j k f (less p) (more q) (diff d) = omega arith
low_one j k f (less p) (more q) (same d) = omega arith
low_one j k f (more p) (less q) (diff d) = omega arith
low_one j k f (more p) (less q) (same d) = omega arith
low_one j k f (more p) (more q) (diff d) = omega arith
low_one j k f (more p) (more q) (same d) = omega arith

lift_one : (l e : Bool) (a c r : ℕ) → a ≡ c + on e r → on l a ≡ on l c + on e (on l r)
lift_one true e a c r h = h
lift_one false true a c r h = refl
lift_one false false a c r h = refl

module _ (N : Network) (x : ℕ → ℕ) where
  -- a line that is fixed, and one that is not
  pub low_fixed : (k j : ℕ) → j < k → low N x k j ≡ line_flow N x j
  unfolding low
  low_fixed k j l = rw (lt-ltb j k l) refl

  pub low_open : (k j : ℕ) → k ≤ j → low N x k j ≡ 0
  unfolding low
  low_open k j l = rw (le-ltb j k l) refl

  pub high_fixed : (k j : ℕ) → j < k → high N x k j ≡ line_flow N x j
  unfolding high
  high_fixed k j l = rw (lt-ltb j k l) refl

  pub high_open : (k j : ℕ) → k ≤ j → high N x k j ≡ N.capacity j
  unfolding high
  high_open k j l = rw (le-ltb j k l) refl

  pub flow_rest : (j : ℕ) → line_flow N x j + rest N x j ≡ N.capacity j
  unfolding line_flow rest
  flow_rest j = omega (arith, rest_within N (slack N x j) j)

  low_le_high : (k j : ℕ) → low N x k j ≤ high N x k j
  unfolding low high
  low_le_high k j = go (ltb j k)
    where
      go : (t : Bool) → on t (line_flow N x j) ≤ cond t (line_flow N x j) (N.capacity j)
      go true = omega arith
      go false = omega arith

  high_step : (k : ℕ) → k < N.lines → (S : ℕ → Bool) → leaving N (high N x k) S ≡ leaving N (high N x (suc k)) S + on (goes_out N S k) (rest N x k)
  unfolding leaving high
  high_step k l S =
      sum_ext N.lines _ _ (λ j r. lift_one (goes_out N S j) (eqb j k) _ _ (rest N x j)
      (high_one j k (line_flow N x j) (rest N x j) (N.capacity j) (lt? j k) (lt? j (suc k)) (eq? j k) (flow_rest j)))
      ∙ sum_add N.lines _ _
      ∙ ap (λ (z : ℕ). leaving N (high N x (suc k)) S + z) (sum_one N.lines k (λ j. on (goes_out N S j) (rest N x j)) l)

  low_step : (k : ℕ) → k < N.lines → (S : ℕ → Bool) → entering N (low N x (suc k)) S ≡ entering N (low N x k) S + on (comes_in N S k) (line_flow N x k)
  unfolding entering low
  low_step k l S =
      sum_ext N.lines _ _ (λ j r. lift_one (comes_in N S j) (eqb j k) _ _ (line_flow N x j)
      (low_one j k (line_flow N x j) (lt? j k) (lt? j (suc k)) (eq? j k)))
      ∙ sum_add N.lines _ _
      ∙ ap (λ (z : ℕ). entering N (low N x k) S + z) (sum_one N.lines k (λ j. on (comes_in N S j) (line_flow N x j)) l)

-- slacks, used amounts and open flows balance in every set
abbrev pub SlackBalance : Network → (ℕ → ℕ) → ℕ → Type 0
SlackBalance N x k = (S : ℕ → Bool) → slack N x k S + amount_in N x S + entering N (low N x k) S ≡ demand N S + leaving N (high N x k) S

on_mod : (s r : Bool) (v : ℕ) → on (s || r) v + on (s && r) v ≡ on s v + on r v
on_mod true r v = refl
on_mod false r v = omega arith

amount_in_modular : (N : Network) (x : ℕ → ℕ) (S R : ℕ → Bool) → amount_in N x (S ∪ R) + amount_in N x (S ∩ R) ≡ amount_in N x S + amount_in N x R
unfolding amount_in
amount_in_modular N x S R =
    sym (sum_add N.bids _ _)
    ∙ sum_ext _ _ _ (λ i l. on_mod (S (N.pool i)) (R (N.pool i)) (x i))
    ∙ sum_add N.bids _ _

pub amount_in_ext : (N : Network) (x : ℕ → ℕ) → SoundNetwork N → LooksBelow N.pools (amount_in N x)
unfolding amount_in
amount_in_ext N x k P Q e = sum_ext _ _ _ (λ i l. ap (λ (z : Bool). on z (x i)) (e (N.pool i) (k.pool_below i l)))

entering_ext : (N : Network) (c : ℕ → ℕ) → SoundNetwork N → LooksBelow N.pools (entering N c)
unfolding entering
entering_ext N c k P Q e = sum_ext _ _ _ (λ j l. ap₂ (λ (y z : Bool). on (not y && z) (c j)) (e (N.source j) (k.source_below j l)) (e (N.target j) (k.target_below j l)))

pub step_one : (s t : Bool) (sl r f : ℕ) → (s ≡ true → t ≡ false → r ≤ sl) → (s ≡ false → t ≡ true → f ≤ sl)
    → sl - on (s && not t) r - on (not s && t) f + on (s && not t) r + on (not s && t) f ≡ sl
step_one true true sl r f h q = omega arith
step_one true false sl r f h q = omega (arith, h refl refl)
step_one false true sl r f h q = omega (arith, q refl refl)
step_one false false sl r f h q = omega arith

module _ (N : Network) (ok : SoundNetwork N) (x : ℕ → ℕ) where
  balance_first : ((S : ℕ → Bool) → amount_in N x S ≤ cut N S) → SlackBalance N x 0
  unfolding slack cut entering leaving
  balance_first h S =
      omega (
        arith,
        h S,
        sum_ext N.lines (λ j. on (comes_in N S j) (low N x 0 j)) (λ j. 0) (λ j l. ap (on (comes_in N S j)) (low_open N x 0 j (omega arith)) ∙ on_zero (comes_in N S j)),
        sum_zero N.lines,
        sum_ext N.lines (λ j. on (goes_out N S j) (high N x 0 j)) (λ j. on (goes_out N S j) (N.capacity j)) (λ j l. ap (on (goes_out N S j)) (high_open N x 0 j (omega arith))),
      )

  slack_ext : (k : ℕ) → SlackBalance N x k → LooksBelow N.pools (slack N x k)
  slack_ext k h P Q e =
      omega (arith, h P, h Q, amount_in_ext N x ok P Q e, entering_ext N (low N x k) ok P Q e, demand_ext N ok P Q e, leaving_ext N (high N x k) ok P Q e)

  pub rest_leaves : (k : ℕ) → SlackBalance N x k → k < N.lines → (S : ℕ → Bool) → S (N.source k) ≡ true → S (N.target k) ≡ false → rest N x k ≤ slack N x k S
  unfolding rest
  rest_leaves k h l S p q = rest_le N ok (slack N x k) (slack_ext k h) k l S p q

  -- the key fact: what line k brings into R is no more than R's slack
  pub flow_enters : (k : ℕ) → SlackBalance N x k → k < N.lines → (R : ℕ → Bool) → R (N.source k) ≡ false → R (N.target k) ≡ true → line_flow N x k ≤ slack N x k R
  unfolding line_flow rest
  flow_enters k h l R p q = go (rest_at N (slack N x k) k)
    where
      go : (rest_of N (slack N x k) k ≡ N.capacity k) ⊎ Binds N (slack N x k) k
          → N.capacity k - rest_of N (slack N x k) k ≤ slack N x k R
      go (inl e) = omega arith
      go (inr e) =
          let S = member e.0 in
          omega (
            arith,
            e.3,
            h S,
            h R,
            h (S ∪ R),
            h (S ∩ R),
            demand_modular N S R,
            amount_in_modular N x S R,
            lines_submodular_at N (low N x k) (high N x k) S R k (N.capacity k) l
                (omega (arith, low_open N x k k (omega arith), high_open N x k k (omega arith))) e.1 e.2 p q (λ j r. low_le_high N x k j),
          )

  balance_next : (k : ℕ) → k < N.lines → SlackBalance N x k → SlackBalance N x (suc k)
  unfolding slack rest line_flow
  balance_next k l h S =
      omega (
        arith,
        h S,
        high_step N x k l S,
        low_step N x k l S,
        step_one (S (N.source k)) (S (N.target k)) (slack N x k S) (rest N x k) (line_flow N x k) (rest_leaves k h l S) (flow_enters k h l S),
      )

  pub balance_after : ((S : ℕ → Bool) → amount_in N x S ≤ cut N S) → (k : ℕ) → k ≤ N.lines → SlackBalance N x k
  balance_after c zero l = balance_first c
  balance_after c (suc k) l = balance_next k l (balance_after c k (omega arith))
