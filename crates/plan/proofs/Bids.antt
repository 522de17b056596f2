-- The phases that fill the constants and each bid's own numbers.
use Rattle.std.specs.Prelude.{◌≡◌, refl, Bool, [], ◌∷◌, ℕ, suc, ◌*◌, ◌<◌, eqb, ℤ}
use Rattle.std.proofs.Common.{ap, ◌∙◌, arith, lit<}
use Rattle.std.proofs.Math.Dec.{eqb-suc-suc}
use Rattle.definitions.specs.Limits.{hundred}
use Rattle.definitions.specs.Arithmetic.{on, residue}
use Rattle.definitions.specs.Machine.{plus, times, same_as}
use Rattle.definitions.specs.Book.{Book, pool, whole_price, quantity, hundredths, size}
use Rattle.laws.specs.AcceptedBook.{pool_index, Sound}
use Rattle.theory.proofs.ClosedBest.{key_small}
use Rattle.plan.specs.Residues.{plus_small, times_small, times_on, positive_residue, size_residue, raise_residue}
use Rattle.plan.specs.Loops.{loop, eqb_same}
use Rattle.plan.proofs.Holds.{Phase, fill_column, fill_cells}
use Rattle.plan.specs.Names.{Bids, ZeroCells, Units, Hundreds, Shifts, Tops, PoolNumbers, Sides, Sizes, RaisedWholes, RaisedPrices, Doubles, Keys, Nexts, Memberships, PoolSizes, Temporaries}
use Rattle.plan.proofs.Values.{cell_tables, raised_whole, raised_price, side}
use Rattle.plan.specs.Blocks.{unit_block, hundred_block, shift_block, top_block, pool_number_block, side_block, size_block, raised_whole_block, raised_price_block, double_block, key_block, next_block, membership_block, pool_size_block}

module _ (B : Book) (sound : Sound B) where
  pub unit_phase : Phase (cell_tables B) [] Units [] (loop 1 unit_block)
  unit_phase = fill_column (cell_tables B) [] Units [] refl refl refl unit_block (λ i. rw (eqb_same i)) (λ i t l h. rw (eqb_same i))

  pub hundred_phase : Phase (cell_tables B) [] Hundreds [] (loop 1 hundred_block)
  hundred_phase = fill_column (cell_tables B) [] Hundreds [] refl refl refl hundred_block (λ i. rw (eqb_same i)) (λ i t l h. rw (eqb_same i))

  pub shift_phase : Phase (cell_tables B) [] Shifts [] (loop 1 shift_block)
  shift_phase = fill_column (cell_tables B) [] Shifts [] refl refl refl shift_block (λ i. rw (eqb_same i)) (λ i t l h. rw (eqb_same i))

  pub top_phase : Phase (cell_tables B) [] Tops [] (loop 1 top_block)
  top_phase = fill_column (cell_tables B) [] Tops [] refl refl refl top_block (λ i. rw (eqb_same i)) (λ i t l h. rw (eqb_same i))

  pub pool_number_phase : Phase (cell_tables B) [] PoolNumbers [] (loop B.m pool_number_block)
  pool_number_phase = fill_column (cell_tables B) [] PoolNumbers [] refl refl refl pool_number_block (λ p. rw (eqb_same p)) (λ p t l h. rw (eqb_same p))

  pub side_phase : Phase (cell_tables B) (Bids ∷ ZeroCells ∷ []) Sides [] (loop B.n side_block)
  side_phase = fill_column (cell_tables B) (Bids ∷ ZeroCells ∷ []) Sides [] refl refl refl side_block (λ i. rw (eqb_same i))
      (λ i t l h. rw (eqb_same i, h Bids refl i 2 l (lit< tt), h ZeroCells refl 0 0 (lit< tt) (lit< tt)) (positive_residue (quantity B i) (omega (arith, sound.size_small i l))))

  pub size_phase : Phase (cell_tables B) (Bids ∷ Sides ∷ []) Sizes (Temporaries ∷ []) (loop B.n size_block)
  size_phase = fill_column (cell_tables B) (Bids ∷ Sides ∷ []) Sizes (Temporaries ∷ []) refl refl refl size_block (λ i. rw (eqb_same i))
      (λ i t l h. rw (eqb_same i, h Bids refl i 2 l (lit< tt), h Sides refl i 0 l (lit< tt)) (size_residue (quantity B i) (omega (arith, sound.size_small i l))))

  pub raised_whole_phase : Phase (cell_tables B) (Bids ∷ Shifts ∷ []) RaisedWholes [] (loop B.n raised_whole_block)
  raised_whole_phase = fill_column (cell_tables B) (Bids ∷ Shifts ∷ []) RaisedWholes [] refl refl refl raised_whole_block (λ i. rw (eqb_same i))
      (λ i t l h. rw (eqb_same i, h Bids refl i 1 l (lit< tt), h Shifts refl 0 0 (lit< tt) (lit< tt)) (raise_residue (whole_price B i) (raised_whole B i) (sound.whole_is i l) (sound.whole_small i l)))

  -- 100 times the whole part and the hundredths
  in_hundredths_lem : (i : ℕ) → i < B.n → plus (times (raised_whole B i) hundred) (residue (hundredths B i)) ≡ raised_price B i
  in_hundredths_lem i l =
      rw (sound.hundredths_is i l) (omega (arith, times_small (raised_whole B i) hundred (omega (arith, sound.whole_small i l)), sound.whole_small i l, sound.hundredths_small i l))

  pub raised_price_phase : Phase (cell_tables B) (Bids ∷ Hundreds ∷ RaisedWholes ∷ []) RaisedPrices (Temporaries ∷ []) (loop B.n raised_price_block)
  raised_price_phase = fill_column (cell_tables B) (Bids ∷ Hundreds ∷ RaisedWholes ∷ []) RaisedPrices (Temporaries ∷ []) refl refl refl raised_price_block (λ i. rw (eqb_same i))
      (λ i t l h. rw (eqb_same i, h RaisedWholes refl i 0 l (lit< tt), h Hundreds refl 0 0 (lit< tt) (lit< tt), h Bids refl i 3 l (lit< tt)) (in_hundredths_lem i l))

  pub double_phase : Phase (cell_tables B) (RaisedPrices ∷ []) Doubles [] (loop B.n double_block)
  double_phase = fill_column (cell_tables B) (RaisedPrices ∷ []) Doubles [] refl refl refl double_block (λ i. rw (eqb_same i))
      (λ i t l h. rw (eqb_same i, h RaisedPrices refl i 0 l (lit< tt)) (omega (arith, sound.price_small i l)))

  pub key_phase : Phase (cell_tables B) (Doubles ∷ Sides ∷ []) Keys [] (loop B.n key_block)
  key_phase = fill_column (cell_tables B) (Doubles ∷ Sides ∷ []) Keys [] refl refl refl key_block (λ i. rw (eqb_same i))
      (λ i t l h. rw (eqb_same i, h Doubles refl i 0 l (lit< tt), h Sides refl i 0 l (lit< tt))
      (plus_small (2 * raised_price B i) (side B i) (omega (arith, key_small B sound i l))))

  pub next_phase : Phase (cell_tables B) (Doubles ∷ Units ∷ []) Nexts [] (loop B.n next_block)
  next_phase = fill_column (cell_tables B) (Doubles ∷ Units ∷ []) Nexts [] refl refl refl next_block (λ i. rw (eqb_same i))
      (λ i t l h. rw (eqb_same i, h Doubles refl i 0 l (lit< tt), h Units refl 0 0 (lit< tt) (lit< tt))
      (plus_small (2 * raised_price B i) 1 (omega (arith, sound.price_small i l))))

  membership_test : (i p : ℕ) → i < B.n → same_as (residue (pool B i)) (suc p) ≡ on (eqb (pool_index B i) p) 1
  membership_test i p l = ap (λ (z : ℤ). same_as (residue z) (suc p)) (sound.pool_is i l) ∙ ap (λ (t : Bool). on t 1) (eqb-suc-suc (pool_index B i) p)

  pub membership_phase : Phase (cell_tables B) (Bids ∷ PoolNumbers ∷ []) Memberships [] (loop B.n (λ i. loop B.m (membership_block i)))
  membership_phase = fill_cells (cell_tables B) (Bids ∷ PoolNumbers ∷ []) Memberships [] refl refl membership_block (λ i p. rw (eqb_same i, eqb_same p))
      (λ i p t l b h. rw (eqb_same i, eqb_same p, h Bids refl i 0 l (lit< tt), h PoolNumbers refl p 0 b (lit< tt)) (membership_test i p l))

  pub pool_size_phase : Phase (cell_tables B) (Memberships ∷ Sizes ∷ []) PoolSizes [] (loop B.n (λ i. loop B.m (pool_size_block i)))
  pool_size_phase = fill_cells (cell_tables B) (Memberships ∷ Sizes ∷ []) PoolSizes [] refl refl pool_size_block (λ i p. rw (eqb_same i, eqb_same p))
      (λ i p t l b h. rw (eqb_same i, eqb_same p, h Memberships refl i p l b, h Sizes refl i 0 l (lit< tt))
      (times_on (eqb (pool_index B i) p) (size B i) (omega (arith, sound.size_small i l))))
