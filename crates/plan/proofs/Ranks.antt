-- The phases that fill the ranks, the used and the accepted amounts.
use Rattle.std.specs.Prelude.{◌≡◌, Bool, true, false, not, cond, ltb, eqb}
use Rattle.std.proofs.Common.{refl, ap, ◌∙◌, arith, lit<, List, [], ◌∷◌, ℕ, suc, ◌+◌, ◌-◌, ◌*◌, ◌^◌, ◌≤◌, ◌<◌, ne_eqb}
use Rattle.definitions.specs.Limits.{greatest_positive, pool_limit, quantity_limit}
use Rattle.definitions.specs.Arithmetic.{on, sum_to}
use Rattle.definitions.specs.Book.{Book, purchase, size}
use Rattle.definitions.specs.Machine.{plus, minus, times}
use Rattle.definitions.specs.Clearing.{before}
use Rattle.laws.specs.Sum.{sum_prefix}
use Rattle.laws.specs.Extremes.{min_to}
use Rattle.laws.specs.AcceptedBook.{Sound}
use Rattle.theory.specs.ClosedBest.{size_total}
use Rattle.theory.proofs.ClosedBest.{key_small, used_and_rank, used_size, size_before_small}
use Rattle.plan.specs.Orders.{constant, run, State}
use Rattle.plan.specs.Residues.{plus_small, minus_small, times_on, less_small, min_small}
use Rattle.plan.specs.Loops.{loop, named_run_append, loop_invariant, among, writes, writes_append, writes_loop, eqb_same, loop_own}
use Rattle.plan.proofs.LoopFacts.{keep}
use Rattle.plan.proofs.Holds.{Holds, Phase, holds_keep, holds_part, touches, touches_among, fill_column, fill_rows, fill_cells}
use Rattle.plan.specs.Names.{Family, number, Name, at, same, ZeroCells, Sides, Sizes, Doubles, Keys, Nexts, PoolSizes, Subsets, Cuts, SizesBefore, RanksBefore, SizesWith, RanksWith, Uses, Amounts, Temporaries, Temporary, PoolSize, Subset, SizeBefore, RankBefore, SizeWith, RankWith}
use Rattle.plan.specs.Subsets.{member, complement, subset_sum, subset_outside}
use Rattle.plan.specs.Running.{Lowers, lower}
use Rattle.plan.proofs.RunningFacts.{subset_sums}
use Rattle.plan.proofs.Values.{cell_tables, raised_price, key, pool_size, cut, size_before, size_with, rank, used_amount, accepted_amount}
use Rattle.plan.specs.Blocks.{Block, test_at, test_order, gain_turn, size_before_start, cost_turn, size_with_block, use_block, amount_block}
use Rattle.plan.specs.Table.{size_before_turn, size_before_block, subset_blocks, cost_block, rank_block}
use Rattle.plan.proofs.Merit.{key_test, test_is_before}
use Rattle.plan.proofs.Cuts.{subsets_frame}
use Rattle.plan.proofs.Bounds.{sum_limit_lem, pool_size_small, size_with_small, set_cost_small, rank_small}

accept_small : (t : Bool) (v x : ℕ) → x ≤ v → v ≤ quantity_limit → plus x (times (minus (minus v x) x) (on t 1)) ≡ cond t (v - x) x
accept_small true v x h k =
    let y : ℕ = minus (v - x) x in
    let whole : times y 1 ≡ y = omega arith in
    rw (minus_small v x (omega arith) h, whole) (omega arith)
accept_small false v x h k = omega arith

module _ (B : Book) (sound : Sound B) where
  -- ---- the sizes of the bids before bid i, pool by pool

  -- what a test and its gains read
  abbrev size_before_reads : List Family
  size_before_reads = Doubles ∷ Keys ∷ Nexts ∷ PoolSizes ∷ ZeroCells ∷ []

  -- they hold what they should
  abbrev Compared : State → Type 0
  Compared = Holds (cell_tables B) size_before_reads

  test_writes : (W : Name → Bool) (i j : ℕ) → W (Temporary 0) ≡ true → writes W (test_order i j ∷ []) ≡ true
  test_writes W i j e = go (ltb j i) (ltb i j)
    where
      go : (x y : Bool) → writes W (test_at x y i j ∷ []) ≡ true
      go true y = rw e
      go false true = rw e
      go false false = rw e

  test_value : (i j : ℕ) → i < B.n → j < B.n → (t : State) → Compared t → run (test_order i j ∷ []) t (Temporary 0) ≡ on (before B j i) 1
  test_value i j a b t h = go (ltb j i) (ltb i j) ∙ ap (λ (x : Bool). on x 1) (test_is_before B sound j i b a)
    where
      go : (x y : Bool) → run (test_at x y i j ∷ []) t (Temporary 0) ≡ on (key_test x y B j i) 1
      go true y =
          rw (h Keys refl j 0 b (lit< tt), h Nexts refl i 0 a (lit< tt))
          (less_small (key B j) (2 * raised_price B i + 1) (omega (arith, key_small B sound j b)) (omega (arith, sound.price_small i a)))
      go false true =
          rw (h Doubles refl j 0 b (lit< tt), h Keys refl i 0 a (lit< tt))
          (less_small (2 * raised_price B j) (key B i) (omega (arith, sound.price_small j b)) (omega (arith, key_small B sound i a)))
      go false false = rw (h ZeroCells refl 0 0 (lit< tt) (lit< tt))

  turn_writes : (W : Name → Bool) (i j : ℕ) → W (Temporary 0) ≡ true → W (Temporary 1) ≡ true → ((p : ℕ) → W (SizeBefore i p) ≡ true) → writes W (size_before_turn B.n B.m i j) ≡ true
  turn_writes W i j e f g = writes_append W (test_order i j ∷ []) (loop B.m (gain_turn i j)) (test_writes W i j e) (writes_loop W B.m (gain_turn i j) (λ p _. rw (f, g p)))

  -- the gains of all pools, from the test's outcome
  gain_value : (i j p : ℕ) → p < B.m → (t : State) → run (loop B.m (gain_turn i j)) t (SizeBefore i p) ≡ plus (t (SizeBefore i p)) (times (t (Temporary 0)) (t (PoolSize j p)))
  gain_value i j p l t =
      let earlier : State = run (loop p (gain_turn i j)) t in
      let own : (run (loop B.m (gain_turn i j)) t (SizeBefore i p) ≡ run (gain_turn i j p) earlier (SizeBefore i p)) × (earlier (SizeBefore i p) ≡ t (SizeBefore i p))
      = loop_own B.m (gain_turn i j) (SizeBefore i p) t p l (λ q r ne. rw (eqb_same i, ne_eqb q p ne)) in
      own.0 ∙ rw (
        eqb_same i,
        eqb_same p,
        own.1,
        keep (among (SizesBefore ∷ Temporaries ∷ [])) (loop p (gain_turn i j)) (PoolSize j p) t (writes_loop (among (SizesBefore ∷ Temporaries ∷ [])) p (gain_turn i j) (λ q _. refl)) refl,
        keep (λ c. not (same (Temporary 0) c)) (loop p (gain_turn i j)) (Temporary 0) t (writes_loop (λ c. not (same (Temporary 0) c)) p (gain_turn i j) (λ q _. refl)) refl,
      )

  turn_frame : (i j : ℕ) → writes (among (SizesBefore ∷ Temporaries ∷ [])) (size_before_turn B.n B.m i j) ≡ true
  turn_frame i j = turn_writes (among (SizesBefore ∷ Temporaries ∷ [])) i j refl refl (λ p. refl)

  -- after k bids: the sizes of those of them that are before bid i
  abbrev Gained : (i k : ℕ) → State → Type 0
  Gained i k t = Compared t × ((p : ℕ) → p < B.m → t (SizeBefore i p) ≡ sum_to k (λ j. on (before B j i) (pool_size B j p)))

  size_before_turn_lem : (i j : ℕ) (t : State) → i < B.n → j < B.n → Gained i j t → Gained i (suc j) (run (size_before_turn B.n B.m i j) t)
  unfolding sum_to size_before
  size_before_turn_lem i j t a b g = (
    holds_keep (cell_tables B) (SizesBefore ∷ Temporaries ∷ []) size_before_reads refl (size_before_turn B.n B.m i j) (turn_frame i j) t g.0,
    λ p l.
        let f : ℕ → ℕ = λ k. on (before B k i) (pool_size B k p) in
        gain_value i j p l (run (test_order i j ∷ []) t)
        ∙ rw (
          test_value i j a b t g.0,
          keep (among (Temporaries ∷ [])) (test_order i j ∷ []) (SizeBefore i p) t (test_writes (among (Temporaries ∷ [])) i j refl) refl,
          keep (among (Temporaries ∷ [])) (test_order i j ∷ []) (PoolSize j p) t (test_writes (among (Temporaries ∷ [])) i j refl) refl,
          g.0 PoolSizes refl j p b l,
          g.1 p l,
          times_on (before B j i) (pool_size B j p) (omega (arith, pool_size_small B sound j p b)),
        )
        (plus_small (sum_to j f) (f j) (omega (arith, sum_prefix (suc j) B.n f b, size_before_small B sound i p))),
  )

  size_before_value : (i p : ℕ) (t : State) → i < B.n → p < B.m → Compared t → run (size_before_block B.n B.m i) t (SizeBefore i p) ≡ size_before B i p
  unfolding sum_to size_before
  size_before_value i p t a l h =
      ap (λ (r : State). r (SizeBefore i p)) (named_run_append (loop B.m (size_before_start i)) (loop B.n (size_before_turn B.n B.m i)) t)
      ∙ (loop_invariant (Gained i) B.n (size_before_turn B.n B.m i) (run (loop B.m (size_before_start i)) t) (
        holds_keep (cell_tables B) (SizesBefore ∷ []) size_before_reads refl (loop B.m (size_before_start i)) (writes_loop (among (SizesBefore ∷ [])) B.m (size_before_start i) (λ q _. refl)) t h,
        λ q b. (loop_own B.m (size_before_start i) (SizeBefore i q) t q b (λ k r ne. rw (eqb_same i, ne_eqb k q ne))).0 ∙ rw (eqb_same i, eqb_same q),
      )
      (λ j r b. size_before_turn_lem i j r a b)).1 p l

  pub size_before_phase_lem : Phase (cell_tables B) size_before_reads SizesBefore (Temporaries ∷ []) (loop B.n (size_before_block B.n B.m))
  size_before_phase_lem = fill_rows (cell_tables B) size_before_reads SizesBefore (Temporaries ∷ []) refl refl (size_before_block B.n B.m)
      (λ i. writes_append (touches SizesBefore i (Temporaries ∷ [])) (loop B.m (size_before_start i)) (loop B.n (size_before_turn B.n B.m i)) (writes_loop (touches SizesBefore i (Temporaries ∷ [])) B.m (size_before_start i) (λ q _. rw (eqb_same i)))
      (writes_loop (touches SizesBefore i (Temporaries ∷ [])) B.n (size_before_turn B.n B.m i) (λ j _. turn_writes (touches SizesBefore i (Temporaries ∷ [])) i j refl refl (λ p. rw (eqb_same i)))))
      size_before_value

  -- ---- the rank of bids with sums x in cells X, in cell i of family u

  rank_frame : (u : Family) (i : ℕ) (X : ℕ → Name)
      → ((S : ℕ) → writes (touches u i (Temporaries ∷ Subsets ∷ [])) (cost_turn B.m (at u i 0) S) ≡ true)
      → writes (touches u i (Temporaries ∷ Subsets ∷ [])) (constant (at u i 0) greatest_positive ∷ []) ≡ true
      → writes (touches u i (Temporaries ∷ Subsets ∷ [])) (rank_block B.n B.m X (at u i 0)) ≡ true
  rank_frame u i X turn start =
      let W : Name → Bool = touches u i (Temporaries ∷ Subsets ∷ []) in
      writes_append W (subset_blocks B.n B.m X) (cost_block B.n B.m (at u i 0))
      (touches_among u i (Subsets ∷ []) (Temporaries ∷ Subsets ∷ []) refl (subset_blocks B.n B.m X) (subsets_frame B.n B.m X))
      (writes_append W (constant (at u i 0) greatest_positive ∷ []) (loop (2 ^ B.m) (cost_turn B.m (at u i 0))) start (writes_loop W (2 ^ B.m) (cost_turn B.m (at u i 0)) (λ S _. turn S)))

  module _ (u : Family) (i : ℕ) (no-temporary : eqb (number Temporaries) (number u) ≡ false) (no_cut : eqb (number u) (number Cuts) ≡ false) (no-subset : eqb (number u) (number Subsets) ≡ false)
      (X : ℕ → Name) (clear : (p : ℕ) → among (Subsets ∷ []) (X p) ≡ false)
      (x : ℕ → ℕ) (small : (p : ℕ) → p < B.m → x p ≤ size_total + quantity_limit) where
    -- where the rank goes
    abbrev d : Name
    d = at u i 0

    -- what set S costs
    abbrev cost : ℕ → ℕ
    cost S = cut B S + sum_to B.m (λ p. on (not (member S p)) (x p))

    -- the cuts, and the sums of x over all sets
    abbrev Summed : State → Type 0
    Summed t = Holds (cell_tables B) (Cuts ∷ []) t × ((S : ℕ) → S < 2 ^ B.m → t (Subset S) ≡ subset_sum B.m x S)

    -- orders that write d and temporaries keep what is summed
    summed_keep : (l : Block) → writes (among (Temporaries ∷ u ∷ [])) l ≡ true → (t : State) → Summed t → Summed (run l t)
    summed_keep l w t g = (
      holds_keep (cell_tables B) (Temporaries ∷ u ∷ []) (Cuts ∷ []) (rw no_cut) l w t g.0,
      λ S a. keep (among (Temporaries ∷ u ∷ [])) l (Subset S) t w (rw no-subset) ∙ g.1 S a,
    )

    cost_lowers : (S : ℕ) → S < 2 ^ B.m → Lowers Summed d (cost_turn B.m d S) (cost S)
    cost_lowers S a t g c = (
      summed_keep (cost_turn B.m d S) (rw (no-temporary, eqb_same (number u))) t g,
      rw (
        no-temporary,
        eqb_same (number u),
        eqb_same i,
        g.0 Cuts refl S 0 a (lit< tt),
        g.1 (complement B.m S) (omega arith),
        subset_outside B.m x S a,
        plus_small (cut B S) (sum_to B.m (λ p. on (not (member S p)) (x p))) (omega (arith, set_cost_small B sound x small S)),
      )
          (min_small (t d) (cost S) c (set_cost_small B sound x small S)),
    )

    rank_value : (s : State) → Holds (cell_tables B) (Cuts ∷ []) s → ((p : ℕ) → p < B.m → s (X p) ≡ x p) → run (rank_block B.n B.m X d) s d ≡ rank B x
    unfolding rank
    rank_value s h e =
        let r : State = run (subset_blocks B.n B.m X) s in
        let g : Summed r = (
          holds_keep (cell_tables B) (Subsets ∷ []) (Cuts ∷ []) refl (subset_blocks B.n B.m X) (subsets_frame B.n B.m X) s h,
          subset_sums B.m X clear x (omega (arith, sum_limit_lem B.m pool_limit x (size_total + quantity_limit) sound.pools small)) s e,
        ) in
        let t : State = run (constant d greatest_positive ∷ []) r in
        let f : t d ≡ greatest_positive = rw (eqb_same (number u), eqb_same i) in
        ap (λ (v : State). v d) (named_run_append (subset_blocks B.n B.m X) (cost_block B.n B.m d) s)
        ∙ (lower Summed d (2 ^ B.m) (cost_turn B.m d) cost cost_lowers t (summed_keep (constant d greatest_positive ∷ []) (rw (no-temporary, eqb_same (number u))) r g) (omega arith)).1
        ∙ ap (λ (v : ℕ). min_to v (2 ^ B.m) cost) f

  pub rank_before_phase : Phase (cell_tables B) (SizesBefore ∷ Cuts ∷ []) RanksBefore (Temporaries ∷ Subsets ∷ []) (loop B.n (λ i. rank_block B.n B.m (SizeBefore i) (RankBefore i)))
  rank_before_phase = fill_column (cell_tables B) (SizesBefore ∷ Cuts ∷ []) RanksBefore (Temporaries ∷ Subsets ∷ []) refl refl refl (λ i. rank_block B.n B.m (SizeBefore i) (RankBefore i))
      (λ i. rank_frame RanksBefore i (SizeBefore i) (λ S. rw (eqb_same i)) (rw (eqb_same i)))
      (λ i t l h.
      rank_value RanksBefore i refl refl refl (SizeBefore i) (λ p. refl) (size_before B i) (λ p _. omega (arith, size_before_small B sound i p)) t
      (holds_part (cell_tables B) (SizesBefore ∷ Cuts ∷ []) (Cuts ∷ []) refl t h) (λ p b. h SizesBefore refl i p l b))

  pub size_with_phase : Phase (cell_tables B) (SizesBefore ∷ PoolSizes ∷ []) SizesWith [] (loop B.n (λ i. loop B.m (size_with_block i)))
  unfolding size_with
  size_with_phase = fill_cells (cell_tables B) (SizesBefore ∷ PoolSizes ∷ []) SizesWith [] refl refl size_with_block (λ i p. rw (eqb_same i, eqb_same p))
      (λ i p t l b h. rw (eqb_same i, eqb_same p, h SizesBefore refl i p l b, h PoolSizes refl i p l b)
      (plus_small (size_before B i p) (pool_size B i p) (omega (arith, size_before_small B sound i p, pool_size_small B sound i p l))))

  pub rank_with_phase : Phase (cell_tables B) (SizesWith ∷ Cuts ∷ []) RanksWith (Temporaries ∷ Subsets ∷ []) (loop B.n (λ i. rank_block B.n B.m (SizeWith i) (RankWith i)))
  rank_with_phase = fill_column (cell_tables B) (SizesWith ∷ Cuts ∷ []) RanksWith (Temporaries ∷ Subsets ∷ []) refl refl refl (λ i. rank_block B.n B.m (SizeWith i) (RankWith i))
      (λ i. rank_frame RanksWith i (SizeWith i) (λ S. rw (eqb_same i)) (rw (eqb_same i)))
      (λ i t l h.
      rank_value RanksWith i refl refl refl (SizeWith i) (λ p. refl) (size_with B i) (λ p _. size_with_small B sound i p l) t
      (holds_part (cell_tables B) (SizesWith ∷ Cuts ∷ []) (Cuts ∷ []) refl t h) (λ p b. h SizesWith refl i p l b))

  -- ---- the amounts

  pub use_phase : Phase (cell_tables B) (RanksBefore ∷ RanksWith ∷ []) Uses [] (loop B.n use_block)
  unfolding used_amount
  use_phase = fill_column (cell_tables B) (RanksBefore ∷ RanksWith ∷ []) Uses [] refl refl refl use_block (λ i. rw (eqb_same i))
      (λ i t l h. rw (eqb_same i, h RanksBefore refl i 0 l (lit< tt), h RanksWith refl i 0 l (lit< tt))
      (minus_small (rank B (size_with B i)) (rank B (size_before B i)) (omega (arith, rank_small B sound (size_with B i))) (omega (arith, used_and_rank B sound i l))))

  pub amount_phase : Phase (cell_tables B) (Sides ∷ Sizes ∷ Uses ∷ []) Amounts (Temporaries ∷ []) (loop B.n amount_block)
  unfolding accepted_amount
  amount_phase = fill_column (cell_tables B) (Sides ∷ Sizes ∷ Uses ∷ []) Amounts (Temporaries ∷ []) refl refl refl amount_block (λ i. rw (eqb_same i))
      (λ i t l h. rw (eqb_same i, h Sizes refl i 0 l (lit< tt), h Uses refl i 0 l (lit< tt), h Sides refl i 0 l (lit< tt))
      (accept_small (purchase B i) (size B i) (used_amount B i) (used_size B sound i l) (sound.size_small i l)))
