-- A sound book as a network: a clearing is feasible for the one exactly if it is feasible for the other; the merit order is a strict total order.
use Rattle.std.specs.Prelude.{◌≡◌, refl, Bool, true, false, not, ◌&&◌, ◌||◌, cond, ◌⊎◌, ℕ, ◌+◌, ◌*◌, ◌-◌, ◌≤◌, ◌<◌, ◌/◌, ◌%◌, eqb, ltb}
use Rattle.std.proofs.Common.{sym, ap₂, ◌∙◌, inl, inr, arith}
use Rattle.std.proofs.Math.Arith.{digits_div, digits_mod, digits_lt}
use Rattle.definitions.specs.Limits.{price_limit}
use Rattle.definitions.specs.Arithmetic.{on}
use Rattle.definitions.specs.Book.{Book, price, purchase, sale, size, in_pool, capacity}
use Rattle.definitions.specs.Clearing.{Clearing, Feasible, sold, bought, inflow, outflow, before, used}
use Rattle.laws.specs.Sum.{sum_ext}
use Rattle.laws.specs.AcceptedBook.{Sound, pool_index, raised_price, in_pool_lem}
use Rattle.theory.specs.Integers.{RaisedBy, raised_less, raised_equal}
use Rattle.theory.specs.Hundredths.{price_raised}
use Rattle.theory.specs.StrictOrder.{StrictTotal}
use Rattle.theory.specs.Network.{Network, SoundNetwork}
use Rattle.theory.specs.Balance.{only, arriving, departing}
use Rattle.theory.specs.Welfare.{FeasibleAmounts, sold_in, bought_in, turn}
use Rattle.theory.specs.MeritOrder.{merit, tie, merit_order, merit_rises}
use Rattle.theory.specs.Grid.{grid, grid_sound, arriving_column, departing_row}

-- line k by rows goes from pool k / m to pool k % m
abbrev pub network_of : Book → Network
network_of B = grid B.n B.m (λ i. size B i) (λ i. pool_index B i) (λ i. purchase B i) (λ k. capacity B (k / B.m) (k % B.m))

-- flows by pools as flows by lines
abbrev pub by_lines : Book → (ℕ → ℕ → ℕ) → ℕ → ℕ
by_lines B f k = f (k / B.m) (k % B.m)

-- flows by lines as flows by pools
abbrev pub by_pools : Book → (ℕ → ℕ) → ℕ → ℕ → ℕ
by_pools B f a b = f (a * B.m + b)

pub by_pools_lines : (B : Book) (f : ℕ → ℕ → ℕ) (a b : ℕ) → b < B.m → by_lines B f (a * B.m + b) ≡ f a b
by_pools_lines B f a b l = ap₂ f (digits_div a l) (digits_mod a l)

-- the definitions' used amounts are the network's
used_one : (t : Bool) (a u : ℕ) → cond (not t) a (u - a) ≡ cond t (u - a) a
used_one true a u = refl
used_one false a u = refl

pub used_is : (B : Book) (a : ℕ → ℕ) (i : ℕ) → used B a i ≡ turn (network_of B) a i
unfolding used turn
used_is B a i = used_one (purchase B i) (a i) (size B i)

on_swap : (s t u : Bool) (v : ℕ) → t ≡ u → on (s && t) v ≡ on (u && s) v
on_swap true t true v e = rw e refl
on_swap true t false v e = rw e refl
on_swap false t true v e = refl
on_swap false t false v e = refl

-- the definitions' tie rule is the network's
tie_one : (s t : Bool) (j i : ℕ) → ((not s && t) || ((not s && (not t && ltb j i)) || (s && (t && ltb i j)))) ≡ tie s t j i
unfolding tie
tie_one true true j i = refl
tie_one true false j i = refl
tie_one false true j i = refl
tie_one false false j i = go (ltb j i)
  where
    go : (x : Bool) → (x || false) ≡ x
    go true = refl
    go false = refl

-- the definitions' merit order compares prices as their raised numbers compare
pub before_raised : (B : Book) (c : ℕ) (raised : ℕ → ℕ) → ((i : ℕ) → i < B.n → RaisedBy c (price B i) (raised i))
    → (j i : ℕ) → j < B.n → i < B.n → before B j i ≡ merit raised (λ i. purchase B i) j i
unfolding before merit
before_raised B c raised h j i l r =
    rw (
      raised_less c (price B j) (price B i) (raised j) (raised i) (h j l) (h i r),
      raised_equal c (price B j) (price B i) (raised j) (raised i) (h j l) (h i r),
      tie_one (purchase B j) (purchase B i) j i,
    ) refl

module _ (B : Book) (ok : Sound B) where
  pub network_sound : SoundNetwork (network_of B)
  network_sound = grid_sound B.n B.m (λ i. size B i) (λ i. pool_index B i) (λ i. purchase B i) (λ k. capacity B (k / B.m) (k % B.m)) ok.pool_index_lem

  -- ---- feasible clearings

  sold_is : (a : ℕ → ℕ) (p : ℕ) → sold B a p ≡ sold_in (network_of B) a (only p)
  unfolding sold sold_in
  sold_is a p = sum_ext _ _ _ (λ i l. on_swap (sale B i) (in_pool B p i) (eqb (pool_index B i) p) (a i) (in_pool_lem B ok p i l))

  bought_is : (a : ℕ → ℕ) (p : ℕ) → bought B a p ≡ bought_in (network_of B) a (only p)
  unfolding bought bought_in
  bought_is a p = sum_ext _ _ _ (λ i l. on_swap (purchase B i) (in_pool B p i) (eqb (pool_index B i) p) (a i) (in_pool_lem B ok p i l))

  inflow_is : (f : ℕ → ℕ → ℕ) (h : ℕ → ℕ) (p : ℕ) → p < B.m → ((a : ℕ) → a < B.m → f a p ≡ h (a * B.m + p)) → inflow B f p ≡ arriving (network_of B) h (only p)
  unfolding inflow
  inflow_is f h p l e =
      sum_ext _ _ _ e
      ∙ sym (arriving_column B.n B.m (λ i. size B i) (λ i. pool_index B i) (λ i. purchase B i) (λ k. capacity B (k / B.m) (k % B.m)) h p l)

  outflow_is : (f : ℕ → ℕ → ℕ) (h : ℕ → ℕ) (p : ℕ) → p < B.m → ((b : ℕ) → b < B.m → f p b ≡ h (p * B.m + b)) → outflow B f p ≡ departing (network_of B) h (only p)
  unfolding outflow
  outflow_is f h p l e =
      sum_ext _ _ _ e
      ∙ sym (departing_row B.n B.m (λ i. size B i) (λ i. pool_index B i) (λ i. purchase B i) (λ k. capacity B (k / B.m) (k % B.m)) h p l)

  pub feasible_network : (c : Clearing) → Feasible B c → FeasibleAmounts (network_of B) c.accepted (by_lines B c.flow)
  feasible_network c h = record {
    sizes = h.amounts;
    capacities = λ k l. h.flows (k / B.m) (k % B.m) (network_sound.source_below k l) (network_sound.target_below k l);
    balance = λ p l. omega (
      arith,
      h.balance p l,
      sold_is c.accepted p,
      bought_is c.accepted p,
      inflow_is c.flow (by_lines B c.flow) p l (λ a r. sym (by_pools_lines B c.flow a p l)),
      outflow_is c.flow (by_lines B c.flow) p l (λ b r. sym (by_pools_lines B c.flow p b r)),
    );
  }

  pub network_feasible : (a f : ℕ → ℕ) → FeasibleAmounts (network_of B) a f → Feasible B (record { accepted = a; flow = by_pools B f })
  network_feasible a f h = record {
    amounts = h.sizes;
    flows = λ x y l r. rw (digits_div x r, digits_mod x r) at (h.capacities (x * B.m + y) (digits_lt l r));
    balance = λ p l. omega (
      arith,
      h.balance p l,
      sold_is a p,
      bought_is a p,
      inflow_is (by_pools B f) f p l (λ x r. refl),
      outflow_is (by_pools B f) f p l (λ y r. refl),
    );
  }

  -- ---- the merit order

  pub before_is : (j i : ℕ) → j < B.n → i < B.n → before B j i ≡ merit (λ i. raised_price B i) (λ i. purchase B i) j i
  before_is = before_raised B price_limit (λ i. raised_price B i) (price_raised B ok)

  -- "Merit order: lower limit price first; at equal price .." is a strict total order on the bids
  pub before_strict_total : StrictTotal B.n (before B)
  before_strict_total =
      let o = merit_order (λ i. raised_price B i) (λ i. purchase B i) B.n in
      record {
        irreflexive = λ i l. before_is i i l l ∙ o.irreflexive i l;
        transitive = λ i j k l r q e f. before_is i k l q ∙ o.transitive i j k l r q (sym (before_is i j l r) ∙ e) (sym (before_is j k r q) ∙ f);
        connected = λ i j l r h. carried i j l r (o.connected i j l r h);
      }
    where
      carried : (i j : ℕ) → i < B.n → j < B.n
          → (merit (λ i. raised_price B i) (λ i. purchase B i) i j ≡ true) ⊎ (merit (λ i. raised_price B i) (λ i. purchase B i) j i ≡ true)
          → (before B i j ≡ true) ⊎ (before B j i ≡ true)
      carried i j l r (inl e) = inl (before_is i j l r ∙ e)
      carried i j l r (inr e) = inr (before_is j i r l ∙ e)

  -- prices do not fall along it
  pub before_rises : (i j : ℕ) → i < B.n → j < B.n → before B j i ≡ true → raised_price B j ≤ raised_price B i
  before_rises i j l r e = merit_rises (λ i. raised_price B i) (λ i. purchase B i) i j (sym (before_is j i r l) ∙ e)
