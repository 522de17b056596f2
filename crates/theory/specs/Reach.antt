-- One pool reaches another, along lines that are not full or back along lines that carry something, exactly if no set without slack holds the one without
-- the other.
use Rattle.std.specs.Prelude.{◌≡◌, refl, Bool, not, ◌&&◌, ◌||◌, ◌⊎◌, ℕ, zero, suc, ◌-◌, ◌≤◌, ◌<◌, eqb, ltb, true, false}
use Rattle.std.proofs.Common.{sym, ◌∙◌, subst, true≢false, inl, inr, arith, ltb-true, eqb-true, eq-eqb}
use Rattle.std.proofs.Math.Decide.{dec_lt}
use Rattle.definitions.specs.Arithmetic.{on, sum_to}
use Rattle.laws.specs.Sum.{sum_le, sum_zero, sum_le_at}
use Rattle.laws.specs.Tests.{Lt?, less, more, lt?}
use Rattle.theory.specs.Network.{goes_out, comes_in, Network, SoundNetwork, leaving, entering, cut, amount_in, ◌adding◌}
use Rattle.theory.specs.Balance.{only, FeasibleUse, cut_balance}
use Rattle.std.proofs.lemmas.Bool.{true_from_ne_false, or_left, or_cases}
use Rattle.theory.specs.Choices.{search, on_monotone, and_both}

-- pool q reaches another: itself, along a line that is not full, back along one that carries something
pub data Reach (N : Network) (f : ℕ → ℕ) (q : ℕ) : ℕ → Type 0 where
  here : Reach N f q q
  along : (j : ℕ) → j < N.lines → f j < N.capacity j → Reach N f q (N.source j) → Reach N f q (N.target j)
  back : (j : ℕ) → j < N.lines → 0 < f j → Reach N f q (N.target j) → Reach N f q (N.source j)

-- a set without slack is not left
module _ (N : Network) (ok : SoundNetwork N) (x f : ℕ → ℕ) (c : FeasibleUse N x f) (S : ℕ → Bool) (tight : cut N S ≤ amount_in N x S) where
  full : (j : ℕ) → j < N.lines → S (N.source j) ≡ true → S (N.target j) ≡ false → f j < N.capacity j → ⊥
  unfolding cut leaving
  full j l p q h =
      omega (
        arith,
        tight,
        cut_balance N ok x f c S,
        sum_le_at N.lines (λ i. on (goes_out N S i) (f i)) (λ i. on (goes_out N S i) (N.capacity i)) (N.capacity j - f j) j l
            (rw (p, q) (omega arith)) (λ i r. on_monotone (goes_out N S i) (f i) (N.capacity i) (c.capacities i r)),
      )

  empty : (j : ℕ) → j < N.lines → S (N.source j) ≡ false → S (N.target j) ≡ true → 0 < f j → ⊥
  unfolding cut leaving entering
  empty j l p q h =
      omega (
        arith,
        tight,
        cut_balance N ok x f c S,
        sum_le N.lines (λ i. on (goes_out N S i) (f i)) (λ i. on (goes_out N S i) (N.capacity i))
            (λ i r. on_monotone (goes_out N S i) (f i) (N.capacity i) (c.capacities i r)),
        sum_le_at N.lines (λ i. 0) (λ i. on (comes_in N S i) (f i)) (f j) j l (rw (p, q) (omega arith)) (λ i r. omega arith),
      )

  stays : (q : ℕ) → S q ≡ true → {p : ℕ} → Reach N f q p → S p ≡ true
  stays q e here = e
  stays q e (along j l h r) = true_from_ne_false (S (N.target j)) (λ z. full j l (stays q e r) z h)
  stays q e (back j l h r) = true_from_ne_false (S (N.source j)) (λ z. empty j l z (stays q e r) h)

-- only if
pub reach_slack : (N : Network) → SoundNetwork N → (x f : ℕ → ℕ) → FeasibleUse N x f → (q p : ℕ) → Reach N f q p → (S : ℕ → Bool) → S q ≡ true → S p ≡ false → amount_in N x S < cut N S
reach_slack N ok x f c q p r S e z = go (dec_lt (amount_in N x S) (cut N S))
  where
    go : Dec (amount_in N x S < cut N S) → amount_in N x S < cut N S
    go (yes h) = h
    go (no h) = absurd (true≢false (sym (stays N ok x f c S (omega arith) q e r) ∙ z))

-- a line that leads on from neither of its ends, by the tests: s and t say that a set holds its source and its target
idle : (s t : Bool) (v w : ℕ) {x y : Bool} → Lt? v w x → Lt? 0 v y → ((s && not t) && x) || ((not s && t) && y) ≡ false
    → (on (s && not t) w ≤ on (s && not t) v) × (on (not s && t) v ≤ 0)
idle true true v w a b e = (omega arith, omega arith)
idle true false v w (less l) b e = absurd (true≢false e)
idle true false v w (more l) b e = (omega arith, omega arith)
idle false true v w a (less l) e = absurd (true≢false e)
idle false true v w a (more l) e = (omega arith, omega arith)
idle false false v w a b e = (omega arith, omega arith)

-- if: a set of reached pools grows until it holds p
module _ (N : Network) (ok : SoundNetwork N) (x f : ℕ → ℕ) (c : FeasibleUse N x f) (q p : ℕ)
    (slack : (S : ℕ → Bool) → S q ≡ true → S p ≡ false → amount_in N x S < cut N S) where
  -- line j leads on from R, along it or back
  abbrev leads_on : (ℕ → Bool) → ℕ → Bool
  leads_on R j = (goes_out N R j && ltb (f j) (N.capacity j)) || (comes_in N R j && ltb 0 (f j))

  is_not : (t : Bool) → not t ≡ true → t ≡ false
  is_not true e = sym e
  is_not false e = refl

  -- a pool that R lacks can be reached
  abbrev Further : (ℕ → Bool) → Type 0
  Further R = (r : ℕ) × (r < N.pools) × (R r ≡ false) × Reach N f q r

  along_line : (R : ℕ → Bool) → ((r : ℕ) → R r ≡ true → Reach N f q r) → (j : ℕ) → j < N.lines → leads_on R j ≡ true → Further R
  along_line R reached j l e = go (or_cases (goes_out N R j && ltb (f j) (N.capacity j)) (comes_in N R j && ltb 0 (f j)) e)
    where
      go : ((goes_out N R j && ltb (f j) (N.capacity j)) ≡ true) ⊎ ((comes_in N R j && ltb 0 (f j)) ≡ true) → Further R
      go (inl h) =
          let u = and_both (goes_out N R j) (ltb (f j) (N.capacity j)) h in
          let v = and_both (R (N.source j)) (not (R (N.target j))) u.0 in
          (N.target j, ok.target_below j l, is_not (R (N.target j)) v.1, along j l (ltb-true (f j) (N.capacity j) u.1) (reached (N.source j) v.0))
      go (inr h) =
          let u = and_both (comes_in N R j) (ltb 0 (f j)) h in
          let v = and_both (not (R (N.source j))) (R (N.target j)) u.0 in
          (N.source j, ok.source_below j l, is_not (R (N.source j)) v.0, back j l (ltb-true 0 (f j) u.1) (reached (N.target j) v.1))

  -- a set from which no line leads on has no slack
  idle_tight : (R : ℕ → Bool) → ((j : ℕ) → j < N.lines → leads_on R j ≡ false) → cut N R ≤ amount_in N x R
  unfolding cut leaving entering
  idle_tight R h =
      omega (
        arith,
        cut_balance N ok x f c R,
        sum_le N.lines (λ j. on (goes_out N R j) (N.capacity j)) (λ j. on (goes_out N R j) (f j)) (λ j l. (idle_at j l).0),
        sum_le N.lines (λ j. on (comes_in N R j) (f j)) (λ j. 0) (λ j l. (idle_at j l).1),
        sum_zero N.lines,
      )
    where
      idle_at : (j : ℕ) → j < N.lines → (on (goes_out N R j) (N.capacity j) ≤ on (goes_out N R j) (f j)) × (on (comes_in N R j) (f j) ≤ 0)
      idle_at j l = idle (R (N.source j)) (R (N.target j)) (f j) (N.capacity j) (lt? (f j) (N.capacity j)) (lt? 0 (f j)) (h j l)

  further : (R : ℕ → Bool) → ((r : ℕ) → R r ≡ true → Reach N f q r) → R q ≡ true → R p ≡ false → Further R
  further R reached e z = go (search N.lines (leads_on R))
    where
      go : ((j : ℕ) × (j < N.lines) × (leads_on R j ≡ true)) ⊎ ((j : ℕ) → j < N.lines → leads_on R j ≡ false) → Further R
      go (inl h) = along_line R reached h.0 h.1 h.2
      go (inr h) = absurd (omega (arith, idle_tight R h, slack R e z))

  -- how many pools R lacks
  unfoldable lacking : (ℕ → Bool) → ℕ
  lacking R = sum_to N.pools (λ r. on (not (R r)) 1)

  lacks_less : (R : ℕ → Bool) (r : ℕ) → r < N.pools → R r ≡ false → lacking (R adding r) < lacking R
  unfolding lacking
  lacks_less R r l e =
      omega (
        arith,
        sum_le_at N.pools (λ s. on (not ((R adding r) s)) 1) (λ s. on (not (R s)) 1) 1 r l (rw (e, eq-eqb r r refl) (omega arith)) (λ s k. fewer (R s) (eqb s r)),
      )
    where
      fewer : (s t : Bool) → on (not (s || t)) 1 ≤ on (not s) 1
      fewer true t = omega arith
      fewer false true = omega arith
      fewer false false = omega arith

  abbrev FromFewer : ℕ → Type 0
  FromFewer k = (R : ℕ → Bool) → lacking R < k → ((r : ℕ) → R r ≡ true → Reach N f q r) → R q ≡ true → Reach N f q p

  grow : (k : ℕ) → FromFewer k
  grow zero R l reached e = absurd (omega arith)
  grow (suc k) R l reached e = go (R p) refl (grow k)
    where
      more : (r : ℕ) → Reach N f q r → (s : ℕ) → (R adding r) s ≡ true → Reach N f q s
      more r w s h = pick (or_cases (R s) (eqb s r) h)
        where
          pick : (R s ≡ true) ⊎ (eqb s r ≡ true) → Reach N f q s
          pick (inl a) = reached s a
          pick (inr a) = subst (Reach N f q) (sym (eqb-true s r a)) w

      go : (t : Bool) → R p ≡ t → FromFewer k → Reach N f q p
      go true z fewer = reached p z
      go false z fewer =
          let h : Further R = further R reached e z in
          fewer (R adding h.0) (omega (arith, lacks_less R h.0 h.1 h.2)) (more h.0 h.3) (or_left (R q) (eqb q h.0) e)

  pub slack_reach : Reach N f q p
  slack_reach =
      grow (suc (lacking (only q))) (only q) (omega arith) (λ r h. subst (Reach N f q) (sym (eqb-true r q h)) here) (eq-eqb q q refl)
