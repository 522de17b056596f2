-- The phases that fill the margins, the greatest margin in each pool and in the pools that reach it, the whole part of each pool's price, and the pools' price,
-- hundredths and presence cells.
use Rattle.std.specs.Prelude.{◌≡◌, Bool, false, [], ◌∷◌, List, ℕ, zero, suc, ◌+◌, ◌*◌, ◌≤◌, ◌<◌, ltb, eqb}
use Rattle.std.proofs.Common.{refl, sym, true, ◌∙◌, arith, lit<, lit≤}
use Rattle.std.proofs.Math.Arith.{digits_div, digits_mod, digits_lt}
use Rattle.definitions.specs.Limits.{whole_limit, hundred, greatest_positive, pool_results}
use Rattle.definitions.specs.Arithmetic.{on}
use Rattle.definitions.specs.Book.{Book, size}
use Rattle.definitions.specs.Machine.{minus, times, less_than}
use Rattle.laws.specs.Tests.{on_le}
use Rattle.laws.specs.Extremes.{max_to}
use Rattle.laws.specs.AcceptedBook.{pool_index, Sound}
use Rattle.plan.specs.Orders.{run, State}
use Rattle.plan.specs.Residues.{minus_small, times_small, times_on, on_times, less_small, max_small}
use Rattle.plan.specs.Loops.{loop, writes, writes_append, writes_loop, eqb_same}
use Rattle.plan.proofs.Holds.{Holds, Phase, apart, holds_keep, touches, touches_family, fill_column, fill_rows, fill_cells}
use Rattle.plan.specs.Names.{Family, number, Name, at, ZeroCells, Hundreds, Shifts, Tops, Sizes, RaisedWholes, RaisedPrices, Memberships, Uses, ReachTests, Margins, PoolMargins, BestMargins, PriceTests, PoolWholes, Prices, Temporaries, ZeroCell, Shift, RaisedWhole, Membership, ReachTest, Margin, PoolMargin, BestMargin, PriceTest, PoolWhole, rows_of, columns_of}
use Rattle.plan.specs.Running.{Raises, raise}
use Rattle.plan.proofs.Values.{cell_tables, top, raised_whole, raised_price, used_amount, reached, price_margin, margin, pool_margin, best_margin, has_price, pool_whole, price_cells}
use Rattle.plan.specs.Blocks.{Block, margin_block, greatest_start, greatest_turn, price_test_block, price_block}
use Rattle.plan.specs.Table.{greatest_block}
use Rattle.plan.proofs.Bounds.{used_small, margin_small, pool_margin_small, best_margin_small, pool_whole_small}

-- the greatest in row p of family u, of numbers v whose test p holds: tests and numbers stand in families that it reads
module _ (B : Book) (u : Family) (reads : List Family) (clear : apart (u ∷ Temporaries ∷ []) reads ≡ true)
    (no-temporary : eqb (number Temporaries) (number u) ≡ false) (rows : rows_of B.n B.m u ≡ B.m) (column : columns_of B.n B.m u ≡ 1)
    (k : ℕ) (a : (p i : ℕ) → Name) (b : ℕ → Name) (test : (p i : ℕ) → Bool) (v : ℕ → ℕ) (small : (i : ℕ) → i < k → v i ≤ greatest_positive)
    (tests : (p i : ℕ) (t : State) → p < B.m → i < k → Holds (cell_tables B) reads t → t (a p i) ≡ on (test p i) 1)
    (numbers : (i : ℕ) (t : State) → i < k → Holds (cell_tables B) reads t → t (b i) ≡ v i)
    (value : (p : ℕ) → (cell_tables B).value u p 0 ≡ max_to k (λ i. on (test p i) (v i))) where
  -- where it goes
  abbrev d : ℕ → Name
  d p = at u p 0

  -- the start and the turns write row p and temporaries
  start_touches : (p : ℕ) → writes (touches u p (Temporaries ∷ [])) (greatest_start (d p)) ≡ true
  start_touches p = rw (no-temporary, eqb_same (number u), eqb_same p)

  turn_touches : (p i : ℕ) → writes (touches u p (Temporaries ∷ [])) (greatest_turn (d p) (a p i) (b i)) ≡ true
  turn_touches p i = rw (no-temporary, eqb_same (number u), eqb_same p)

  -- and so keep what is read
  kept : (p : ℕ) (l : Block) → writes (touches u p (Temporaries ∷ [])) l ≡ true → (t : State) → Holds (cell_tables B) reads t → Holds (cell_tables B) reads (run l t)
  kept p l w t h = holds_keep (cell_tables B) (u ∷ Temporaries ∷ []) reads clear l (touches_family u (Temporaries ∷ []) p l w) t h

  term_small : (p i : ℕ) → i < k → on (test p i) (v i) ≤ greatest_positive
  term_small p i l = omega (arith, on_le (test p i) (v i), small i l)

  raises : (p : ℕ) → p < B.m → (i : ℕ) → i < k → Raises (Holds (cell_tables B) reads) (d p) (greatest_turn (d p) (a p i) (b i)) (on (test p i) (v i))
  raises p r i l t h c = (
    kept p (greatest_turn (d p) (a p i) (b i)) (turn_touches p i) t h,
    rw (no-temporary, eqb_same (number u), eqb_same p, tests p i t r l h, numbers i t l h, times_on (test p i) (v i) (omega (arith, small i l)))
        (max_small (t (d p)) (on (test p i) (v i)) c (term_small p i l)),
  )

  greatest_value : (p : ℕ) (t : State) → p < B.m → Holds (cell_tables B) reads t → run (greatest_block B.n B.m k d a b p) t (d p) ≡ (cell_tables B).value u p 0
  greatest_value p t r h =
      (raise (Holds (cell_tables B) reads) (d p) k (λ i. greatest_turn (d p) (a p i) (b i)) (λ i. on (test p i) (v i)) (term_small p) (raises p r)
      (run (greatest_start (d p)) t) (kept p (greatest_start (d p)) (start_touches p) t h) (rw (eqb_same (number u), eqb_same p))).1
      ∙ sym (value p)

  pub greatest_fills : Phase (cell_tables B) reads u (Temporaries ∷ []) (loop (rows_of B.n B.m u) (greatest_block B.n B.m k d a b))
  greatest_fills = fill_column (cell_tables B) reads u (Temporaries ∷ []) clear (rw no-temporary) column (greatest_block B.n B.m k d a b)
      (λ p.
      let W : Name → Bool = touches u p (Temporaries ∷ []) in
      writes_append W (greatest_start (d p)) (loop k (λ i. greatest_turn (d p) (a p i) (b i))) (start_touches p)
      (writes_loop W k (λ i. greatest_turn (d p) (a p i) (b i)) (λ i _. turn_touches p i)))
      (λ p t r h. greatest_value p t (rw rows at r) h)

module _ (B : Book) (sound : Sound B) where
  pub margin_phase : Phase (cell_tables B) (Uses ∷ Sizes ∷ RaisedPrices ∷ Tops ∷ []) Margins (Temporaries ∷ []) (loop B.n margin_block)
  unfolding margin
  margin_phase = fill_column (cell_tables B) (Uses ∷ Sizes ∷ RaisedPrices ∷ Tops ∷ []) Margins (Temporaries ∷ []) refl refl refl margin_block (λ i. rw (eqb_same i))
      (λ i t l h. rw (
        eqb_same i,
        h Uses refl i 0 l (lit< tt),
        h Sizes refl i 0 l (lit< tt),
        h Tops refl 0 0 (lit< tt) (lit< tt),
        h RaisedPrices refl i 0 l (lit< tt),
        minus_small top (raised_price B i) (omega arith) (omega (arith, sound.price_small i l)),
        less_small (used_amount B i) (size B i) (omega (arith, used_small B sound i l)) (omega (arith, sound.size_small i l)),
      )
      (times_on (ltb (used_amount B i) (size B i)) (price_margin B i) (omega arith)))

  pub pool_margin_phase_lem : Phase (cell_tables B) (Margins ∷ Memberships ∷ []) PoolMargins (Temporaries ∷ []) (loop B.m (greatest_block B.n B.m B.n PoolMargin (λ p i. Membership i p) Margin))
  unfolding pool_margin
  pool_margin_phase_lem =
      greatest_fills B PoolMargins (Margins ∷ Memberships ∷ []) refl refl refl refl B.n (λ p i. Membership i p) Margin (λ p i. eqb (pool_index B i) p) (margin B) (λ i _. omega (arith, margin_small B i))
      (λ p i t r l h. h Memberships refl i p l r) (λ i t l h. h Margins refl i 0 l (lit< tt)) (λ p. refl)

  pub best_margin_phase_lem : Phase (cell_tables B) (PoolMargins ∷ ReachTests ∷ []) BestMargins (Temporaries ∷ []) (loop B.m (greatest_block B.n B.m B.m BestMargin (λ p q. ReachTest (q * B.m + p)) PoolMargin))
  unfolding best_margin
  best_margin_phase_lem =
      greatest_fills B BestMargins (PoolMargins ∷ ReachTests ∷ []) refl refl refl refl B.m (λ p q. ReachTest (q * B.m + p)) PoolMargin (λ p q. reached B q p) (pool_margin B) (λ q _. omega (arith, pool_margin_small B q))
      (λ p q t r l h. h ReachTests refl (q * B.m + p) 0 (digits_lt l r) (lit< tt) ∙ rw (digits_div q r, digits_mod q r) refl) (λ q t l h. h PoolMargins refl q 0 l (lit< tt)) (λ p. refl)

  pub price_test_phase : Phase (cell_tables B) (Margins ∷ BestMargins ∷ []) PriceTests [] (loop B.n (λ i. loop B.m (price_test_block i)))
  price_test_phase = fill_cells (cell_tables B) (Margins ∷ BestMargins ∷ []) PriceTests [] refl refl price_test_block (λ i p. rw (eqb_same i, eqb_same p))
      (λ i p t l b h. rw (eqb_same i, eqb_same p, h Margins refl i 0 l (lit< tt), h BestMargins refl p 0 b (lit< tt)))

  pub pool_whole_phase_lem : Phase (cell_tables B) (RaisedWholes ∷ PriceTests ∷ []) PoolWholes (Temporaries ∷ []) (loop B.m (greatest_block B.n B.m B.n PoolWhole (λ p i. PriceTest i p) RaisedWhole))
  unfolding pool_whole
  pool_whole_phase_lem =
      greatest_fills B PoolWholes (RaisedWholes ∷ PriceTests ∷ []) refl refl refl refl B.n (λ p i. PriceTest i p) RaisedWhole (λ p i. has_price B i p) (raised_whole B)
      (λ i l. omega (arith, sound.whole_small i l)) (λ p i t r l h. h PriceTests refl i p l r) (λ i t l h. h RaisedWholes refl i 0 l (lit< tt)) (λ p. refl)

  -- what the prices read
  abbrev HoldsPrices : State → Type 0
  HoldsPrices = Holds (cell_tables B) (PoolWholes ∷ BestMargins ∷ Tops ∷ Shifts ∷ Hundreds ∷ ZeroCells ∷ [])

  price_value : (p j : ℕ) (t : State) → p < B.m → j < pool_results → HoldsPrices t → run (price_block p) t (at Prices p j) ≡ price_cells B p j
  price_value p j t b c h =
      let zero_cell : t ZeroCell ≡ 0 = h ZeroCells refl 0 0 (lit< tt) (lit< tt) in
      let shift : t Shift ≡ whole_limit = h Shifts refl 0 0 (lit< tt) (lit< tt) in
      let margin : t (BestMargin p) ≡ best_margin B p = h BestMargins refl p 0 b (lit< tt) in
      let whole : t (PoolWhole p) ≡ pool_whole B p = h PoolWholes refl p 0 b (lit< tt) in
      let present : less_than 0 (best_margin B p) ≡ on (ltb 0 (best_margin B p)) 1 = less_small 0 (best_margin B p) (lit≤ tt) (omega (arith, best_margin_small B p)) in
      go j c zero_cell shift margin whole present
    where
      go : (j : ℕ) → j < pool_results → t ZeroCell ≡ 0 → t Shift ≡ whole_limit → t (BestMargin p) ≡ best_margin B p → t (PoolWhole p) ≡ pool_whole B p
          → less_than 0 (best_margin B p) ≡ on (ltb 0 (best_margin B p)) 1 → run (price_block p) t (at Prices p j) ≡ price_cells B p j
      go zero c z s m w e = rw (eqb_same p, z, s, m, w, e) (on_times (ltb 0 (best_margin B p)) (minus (pool_whole B p) whole_limit) (omega arith))
      go (suc zero) c z s m w e =
          rw (eqb_same p, z, m, w, e, h Tops refl 0 0 (lit< tt) (lit< tt), h Hundreds refl 0 0 (lit< tt) (lit< tt))
          (rw (let q : times (pool_whole B p) hundred ≡ hundred * pool_whole B p = omega (arith, times_small (pool_whole B p) hundred (omega (arith, pool_whole_small B sound p))) in q)
          (on_times (ltb 0 (best_margin B p)) (minus (minus top (best_margin B p)) (hundred * pool_whole B p)) (omega arith)))
      go (suc (suc zero)) c z s m w e = rw (eqb_same p, z, m) e
      go (suc (suc (suc j))) c z s m w e = absurd (omega arith)

  pub price_phase : Phase (cell_tables B) (PoolWholes ∷ BestMargins ∷ Tops ∷ Shifts ∷ Hundreds ∷ ZeroCells ∷ []) Prices (Temporaries ∷ []) (loop B.m price_block)
  price_phase = fill_rows (cell_tables B) (PoolWholes ∷ BestMargins ∷ Tops ∷ Shifts ∷ Hundreds ∷ ZeroCells ∷ []) Prices (Temporaries ∷ []) refl refl price_block (λ p. rw (eqb_same p)) price_value
