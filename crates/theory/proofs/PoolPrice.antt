-- The pool price is what the request says, step by step (`pool_price_is`). Of a best clearing it does not depend on the flows
-- (`price_of_flows`), and the closed forms give its cells (`closed_price_lem`).
use Rattle.std.specs.Prelude.{◌≡◌, Bool, true, false, cond, ◌&&◌, ltb, ◌⊎◌, ℕ, zero, suc, ◌*◌, ◌≤◌, ◌<◌, ℤ, pos, negsuc}
use Rattle.std.proofs.Common.{refl, sym, ap, ap₂, ◌∙◌, subst, inl, inr, arith, eq-or-lt_of_le, lt-ltb, ltb-true, eqb-true, eq-eqb}
use Rattle.std.proofs.Math.Nat.{suc_inj}
use Rattle.std.proofs.lemmas.Bool.{false≢true}
use Rattle.std.specs.Int.Signed.{lt_z, ≤ℤ_refl}
use Rattle.definitions.specs.Limits.{whole_limit}
use Rattle.definitions.specs.Arithmetic.{on, any_to, residue}
use Rattle.definitions.specs.Book.{Book, whole_price, hundredths, price, size, in_pool}
use Rattle.definitions.specs.Clearing.{Clearing, Feasible, Best, used}
use Rattle.definitions.specs.PoolPrice.{PoolPrice, missing, present, lower_price, least_price, supplies, reaches, pool_price, price_residue, hundredths_residue, presence}
use Rattle.definitions.specs.Machine.{minus}
use Rattle.definitions.specs.Calls.{AcceptedBook, price_in_range}
use Rattle.laws.specs.Any.{any_to_some, any_to_made, any_to_one}
use Rattle.laws.specs.Extremes.{max_to, max_ext, max_of_same, max_of_groups}
use Rattle.laws.specs.AcceptedBook.{Sound, accepted_sound, price_right, pool_index, raised_whole, hundredths_part, in_pool_lem}
use Rattle.theory.specs.Choices.{on_on, on_and, and_both, and_made}
use Rattle.theory.specs.Integers.{RaisedBy, less_le, not_less}
use Rattle.theory.specs.Hundredths.{parts_apart, whole_raised}
use Rattle.theory.specs.CutClearing.{best_used_lem}
use Rattle.theory.specs.ClosedForms.{used_amount, reached, price_margin, margin, pool_margin, best_margin, has_price, pool_whole, closed_price, closed_hundredths, closed_presence}
use Rattle.theory.specs.PoolPrice.{Supplies, LeastPrice, none, some, supplied, least_price_ext, IsMargin, bid_margin, least_price_margin}
use Rattle.theory.proofs.ClosedBest.{used_is_cut}
use Rattle.theory.proofs.Ways.{reaches_says, reaches_made}
use Rattle.theory.proofs.Reachable.{reaches_closed}

-- ---- the least limit price

module _ (B : Book) (test : ℕ → Bool) (Test : ℕ → Type 0) where
  -- what holds below k and at k holds below k + 1
  all_below : {A : ℕ → Type 0} (k : ℕ) → ((i : ℕ) → i < k → A i) → A k → (i : ℕ) → i < suc k → A i
  all_below {A} k h a i l = go (eq-or-lt_of_le l)
    where
      go : (suc i ≡ suc k) ⊎ (suc i < suc k) → A i
      go (inl e) = subst A (sym (suc_inj e)) a
      go (inr e) = h i (omega arith)

  -- bid k passes the test or not
  least_at : (k : ℕ) (t : Bool) → (t ≡ true → Test k) → (Test k → t ≡ true) → {x : PoolPrice} → LeastPrice B Test k x → LeastPrice B Test (suc k) (cond t (lower_price x (whole_price B k) (hundredths B k)) x)
  least_at k false f g (none h) = none (all_below k h (λ a. false≢true (g a)))
  least_at k false f g (some i l s h) = some i (omega arith) s (all_below k h (λ a. absurd (false≢true (g a))))
  least_at k true f g (none h) = some k (omega arith) (f refl) (all_below k (λ j r a. absurd (h j r a)) (λ a. ≤ℤ_refl (price B k)))
  least_at k true f g (some i l s h) = go (lt_z (price B k) (price B i)) refl
    where
      go : (t : Bool) → lt_z (price B k) (price B i) ≡ t → LeastPrice B Test (suc k) (cond t (present (whole_price B k) (hundredths B k)) (present (whole_price B i) (hundredths B i)))
      go true q = some k (omega arith) (f refl) (all_below k (λ j r a. less_le (price B k) (price B i) (price B j) q (h j r a)) (λ a. ≤ℤ_refl (price B k)))
      go false q = some i (omega arith) s (all_below k h (λ a. not_less (price B k) (price B i) q))

  -- what is computed of a test is the least of the bids that pass it
  least_upto : (k : ℕ) → ((i : ℕ) → i < k → test i ≡ true → Test i) → ((i : ℕ) → i < k → Test i → test i ≡ true) → LeastPrice B Test k (least_price B test k)
  unfolding least_price
  least_upto zero f g = none (λ i l. absurd (omega arith))
  least_upto (suc k) f g = least_at k (test k) (f k (omega arith)) (g k (omega arith)) (least_upto k (λ i l. f i (omega arith)) (λ i l. g i (omega arith)))

-- ---- the request's words

module _ (B : Book) (c : Clearing) (p : ℕ) (r : p < B.m) where
  supplies_says : (i : ℕ) → supplies B c p i ≡ true → Supplies B c p i
  supplies_says i e =
      let both = and_both (ltb (used B c.accepted i) (size B i)) (any_to B.m (λ q. in_pool B q i && reaches B c.flow q p)) e in
      let some-pool = any_to_some B.m (λ q. in_pool B q i && reaches B c.flow q p) both.1 in
      let there = and_both (in_pool B some-pool.0 i) (reaches B c.flow some-pool.0 p) some-pool.2 in
      record {
        below_size = ltb-true (used B c.accepted i) (size B i) both.0;
        from = some-pool.0;
        from_below = some-pool.1;
        in_from = there.0;
        reached_from = reaches_says B c.flow some-pool.0 p some-pool.1 r there.1;
      }

  supplies_made : (i : ℕ) → Supplies B c p i → supplies B c p i ≡ true
  supplies_made i s =
      and_made (ltb (used B c.accepted i) (size B i)) (any_to B.m (λ q. in_pool B q i && reaches B c.flow q p)) (lt-ltb (used B c.accepted i) (size B i) s.below_size)
      (any_to_made B.m (λ q. in_pool B q i && reaches B c.flow q p) s.from s.from_below
      (and_made (in_pool B s.from i) (reaches B c.flow s.from p) s.in_from (reaches_made B c.flow s.reached_from)))

  -- "the least limit price among bids with used amount below their size, in a pool from which the pool in question can be reached .. With no such bid
  -- the price is missing": of any clearing of any book
  pub pool_price_is : LeastPrice B (Supplies B c p) B.n (pool_price B c p)
  unfolding pool_price
  pool_price_is = least_upto B (supplies B c p) (Supplies B c p) B.n (λ i _. supplies_says i) (λ i _. supplies_made i)

-- ---- its three cells, from the best margin: the whole part is found at a bid that has the pool's price

-- of a whole part
whole_cell : (z : ℤ) (r : ℕ) → RaisedBy whole_limit z r → r ≤ 2 * whole_limit → residue z ≡ minus r whole_limit
whole_cell (pos v) r e h = omega arith
whole_cell (negsuc v) r e h = omega arith

-- the cells of a price are the closed forms
abbrev Cells : Book → (p : ℕ) → PoolPrice → Type 0
Cells B p x = (price_residue x ≡ closed_price B p) × (hundredths_residue x ≡ closed_hundredths B p) × (presence x ≡ closed_presence B p)

module _ (B : Book) (sound : Sound B) (p : ℕ) where
  supplied_margin : (i : ℕ) → supplied B p i ≡ true → margin B i ≡ price_margin B i
  unfolding supplied margin
  supplied_margin i e = rw (and_both (ltb (used_amount B i) (size B i)) (reached B (pool_index B i) p) e).0 refl

  -- bids of one margin that is not 0 have one price, and so one whole part
  same_whole : (i j : ℕ) → i < B.n → j < B.n → 0 < price_margin B i → margin B j ≡ price_margin B i → raised_whole B j ≡ raised_whole B i
  unfolding margin
  same_whole i j l r positive = go (ltb (used_amount B j) (size B j))
    where
      go : (t : Bool) → on t (price_margin B j) ≡ price_margin B i → raised_whole B j ≡ raised_whole B i
      go true e =
          (parts_apart (raised_whole B j) (raised_whole B i) (hundredths_part B j) (hundredths_part B i) (sound.hundredths_small j r) (sound.hundredths_small i l)
          (omega (arith, sound.price_small i l, sound.price_small j r))).0
      go false e = absurd (omega arith)

  whole_found : (i : ℕ) → i < B.n → has_price B i p ≡ true → ((j : ℕ) → j < B.n → has_price B j p ≡ true → raised_whole B j ≡ raised_whole B i) → pool_whole B p ≡ raised_whole B i
  unfolding pool_whole
  whole_found i l e same = max_of_same B.n (λ i. has_price B i p) (λ i. raised_whole B i) i l e same

  price_cells : (x : PoolPrice) → LeastPrice B (λ i. supplied B p i ≡ true) B.n x → IsMargin x (best_margin B p) → Cells B p x
  price_cells missing least m = rw m (refl, refl, refl)
  price_cells (present w h) (some i l s _) m =
      let positive : 0 < price_margin B i = (bid_margin B sound i l).1 in
      let best : best_margin B p ≡ price_margin B i = omega (arith, m.0, (bid_margin B sound i l).0) in
      let there : has_price B i p ≡ true = eq-eqb (margin B i) (best_margin B p) (supplied_margin i s ∙ sym best) in
      let same : (j : ℕ) → j < B.n → has_price B j p ≡ true → raised_whole B j ≡ raised_whole B i =
      λ j r e. same_whole i j l r positive (eqb-true (margin B j) (best_margin B p) e ∙ best) in
      let found : pool_whole B p ≡ raised_whole B i = whole_found i l there same in
      rw (found, best, lt-ltb 0 (price_margin B i) positive, sound.hundredths_is i l)
      (whole_cell (whole_price B i) (raised_whole B i) (whole_raised B sound i l) (sound.whole_small i l), omega (arith, sound.price_small i l), refl)

-- the parts of a price are in range, if it has any
abbrev parts_in_range : PoolPrice → Bool
parts_in_range missing = true
parts_in_range (present w h) = price_in_range w h

-- the parts of a pool's price are those of a bid, and so in range: the whole part is rounded down, the hundredths are 0 to 99
pub price_in_parts : (B : Book) → AcceptedBook B → (c : Clearing) (p : ℕ) → p < B.m → (w h : ℤ) → pool_price B c p ≡ present w h → price_in_range w h ≡ true
price_in_parts B a c p r w h e = ap parts_in_range (sym e) ∙ go (pool_price_is B c p r)
  where
    go : {x : PoolPrice} → LeastPrice B (Supplies B c p) B.n x → parts_in_range x ≡ true
    go (none _) = refl
    go (some i l s _) = price_right B (accepted_sound B a) i l

-- ---- of a best clearing

module _ (B : Book) (h : AcceptedBook B) (c : Clearing) (b : Best B c) (p : ℕ) (r : p < B.m) where
  sound : Sound B
  sound = accepted_sound B h

  supplies_closed : (i : ℕ) → i < B.n → supplies B c p i ≡ supplied B p i
  unfolding supplied
  supplies_closed i l =
      ap₂ ◌&&◌ (ap (λ (u : ℕ). ltb u (size B i)) (best_used_lem B sound c b i l ∙ sym (used_is_cut B sound i l)))
      (any_to_one (pool_index B i) (λ q. reaches B c.flow q p) (λ q. in_pool B q i && reaches B c.flow q p) B.m (sound.pool_index_lem i l)
      (λ q _. ap (λ (x : Bool). x && reaches B c.flow q p) (in_pool_lem B sound q i l))
      ∙ reaches_closed B h c b (pool_index B i) p (sound.pool_index_lem i l) r)

  -- its prices, without its flows
  pub closed_pool_price : pool_price B c p ≡ least_price B (supplied B p) B.n
  unfolding pool_price
  closed_pool_price = least_price_ext B (supplies B c p) (supplied B p) B.n supplies_closed

  best_margin_is : best_margin B p ≡ max_to B.n (λ i. on (supplied B p i) (price_margin B i))
  unfolding best_margin pool_margin margin supplied
  best_margin_is =
      max_of_groups B.n B.m (λ i. pool_index B i) (λ i. on (ltb (used_amount B i) (size B i)) (price_margin B i)) (λ q. reached B q p) sound.pool_index_lem
      ∙ max_ext B.n _ _ (λ i l.
      on_on (reached B (pool_index B i) p) (ltb (used_amount B i) (size B i)) (price_margin B i)
      ∙ sym (on_and (ltb (used_amount B i) (size B i)) (reached B (pool_index B i) p) (price_margin B i)))

  -- and the cells that the closed forms give
  pub closed_price_lem : Cells B p (pool_price B c p)
  closed_price_lem =
      rw closed_pool_price
      (price_cells B sound p (least_price B (supplied B p) B.n) (least_upto B (supplied B p) (λ i. supplied B p i ≡ true) B.n (λ i _ e. e) (λ i _ e. e))
      (rw (sym best_margin_is) at (least_price_margin B sound (supplied B p) B.n (omega arith))))

-- all best clearings of a book have the same prices
pub price_of_best : (B : Book) → AcceptedBook B → (c d : Clearing) → Best B c → Best B d → (p : ℕ) → p < B.m → pool_price B c p ≡ pool_price B d p
price_of_best B h c d b e p r = closed_pool_price B h c b p r ∙ sym (closed_pool_price B h d e p r)

-- "the price doesn't depend on which permitted flows were chosen": nor on any others with which the best clearing's amounts are feasible
pub price_of_flows : (B : Book) → AcceptedBook B → (c : Clearing) → Best B c → (f : ℕ → ℕ → ℕ) → Feasible B (record { accepted = c.accepted; flow = f }) → (p : ℕ) → p < B.m
    → pool_price B (record { accepted = c.accepted; flow = f }) p ≡ pool_price B c p
price_of_flows B h c b f k p r = price_of_best B h (record { accepted = c.accepted; flow = f }) c (record { feasible = k; greatest = b.greatest }) b p r
