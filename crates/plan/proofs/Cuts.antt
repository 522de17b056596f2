-- The phases that fill the demands and the cuts.
use Rattle.std.specs.Prelude.{◌≡◌, Bool, true, false, cond, [], ◌∷◌, ◌++◌, ℕ, ◌+◌, ◌^◌, ◌<◌}
use Rattle.std.proofs.Common.{refl, ap, ◌∙◌, arith, lit<}
use Rattle.std.proofs.Math.Arith.{lt-one}
use Rattle.definitions.specs.Limits.{modulus}
use Rattle.definitions.specs.Arithmetic.{on, sum_to}
use Rattle.definitions.specs.Book.{Book, purchase, capacity}
use Rattle.laws.specs.AcceptedBook.{Sound}
use Rattle.theory.proofs.ClosedBest.{demand_small, cut_small}
use Rattle.plan.specs.Orders.{constant, sum, run, State}
use Rattle.plan.specs.Residues.{plus_small, times_on}
use Rattle.plan.specs.Loops.{loop, among, writes, writes_loop, eqb_same}
use Rattle.plan.proofs.LoopFacts.{keep}
use Rattle.plan.proofs.Holds.{Holds, Phase, holds_keep, holds_part, touches, fill_column, fill_after}
use Rattle.plan.specs.Names.{Name, Capacities, ZeroCells, Sides, PoolSizes, Demands, Subsets, Cuts, Temporaries, ZeroCell, Demand, Subset, Cut, Capacity}
use Rattle.plan.specs.Subsets.{leaves, subset_sum}
use Rattle.plan.specs.Running.{Adds, accumulate, gather, subset_block, subset_frame}
use Rattle.plan.proofs.RunningFacts.{subset_sums}
use Rattle.plan.proofs.Values.{cell_tables, pool_size, demand, cut}
use Rattle.plan.specs.Blocks.{demand_turn, cut_turn}
use Rattle.plan.specs.Table.{demand_block, subset_blocks, cut_block}
use Rattle.plan.proofs.Bounds.{pool_size_small, demands_small}

-- a cell, or the zero cell where the test fails
pub chosen : (t : State) (x : Bool) (c : Name) (v : ℕ) → t ZeroCell ≡ 0 → t c ≡ v → t (cond x c ZeroCell) ≡ on x v
chosen t true c v e f = f
chosen t false c v e f = e

pub subsets_frame : (n m : ℕ) (X : ℕ → Name) → writes (among (Subsets ∷ [])) (subset_blocks n m X) ≡ true
subsets_frame n m X = writes_loop (among (Subsets ∷ [])) (2 ^ m) (subset_block m X) (λ S _. subset_frame m X S)

module _ (B : Book) (sound : Sound B) where
  -- what a demand reads
  abbrev HoldsSides : State → Type 0
  HoldsSides = Holds (cell_tables B) (Sides ∷ PoolSizes ∷ [])

  demand_value : (p : ℕ) (t : State) → p < B.m → HoldsSides t → run (demand_block B.n B.m p) t (Demand p) ≡ demand B p
  unfolding demand
  demand_value p t b h =
      (gather HoldsSides (Demand p) (loop B.n (demand_turn p)) (demand B p)
      (holds_keep (cell_tables B) (Demands ∷ []) (Sides ∷ PoolSizes ∷ []) refl (constant (Demand p) 0 ∷ []) refl)
      (accumulate HoldsSides (Demand p) B.n (demand_turn p) (λ i. on (purchase B i) (pool_size B i p))
      (λ i l r g c. (
        holds_keep (cell_tables B) (Demands ∷ Temporaries ∷ []) (Sides ∷ PoolSizes ∷ []) refl (demand_turn p i) refl r g,
        rw (eqb_same p, g PoolSizes refl i p l b, g Sides refl i 0 l (lit< tt), times_on (purchase B i) (pool_size B i p) (omega (arith, pool_size_small B sound i p l)))
            (plus_small (r (Demand p)) (on (purchase B i) (pool_size B i p)) c),
      )))
      t h (omega (arith, demand_small B sound p))).1

  pub demand_phase_lem : Phase (cell_tables B) (Sides ∷ PoolSizes ∷ []) Demands (Temporaries ∷ []) (loop B.m (demand_block B.n B.m))
  demand_phase_lem = fill_column (cell_tables B) (Sides ∷ PoolSizes ∷ []) Demands (Temporaries ∷ []) refl refl refl (demand_block B.n B.m)
      (λ p. rw (eqb_same p) (writes_loop (touches Demands p (Temporaries ∷ [])) B.n (demand_turn p) (λ i _. rw (eqb_same p)))) demand_value

  -- what a cut reads of the lines
  abbrev Lines : State → Type 0
  Lines = Holds (cell_tables B) (Capacities ∷ ZeroCells ∷ [])

  -- what a cut reads in all: the lines, and the demands' sums over all sets
  abbrev Summed : State → Type 0
  Summed t = Lines t × ((S : ℕ) → S < 2 ^ B.m → t (Subset S) ≡ subset_sum B.m (demand B) S)

  line_adds : (S a b : ℕ) → a < B.m → b < B.m → Adds Lines (Cut S) (cut_turn S a b) (on (leaves S a b) (capacity B a b))
  line_adds S a b x y r g c = (
    holds_keep (cell_tables B) (Cuts ∷ []) (Capacities ∷ ZeroCells ∷ []) refl (cut_turn S a b) refl r g,
    rw (eqb_same S, chosen r (leaves S a b) (Capacity a b) (capacity B a b) (g ZeroCells refl 0 0 (lit< tt) (lit< tt)) (g Capacities refl a b x y)) (plus_small (r (Cut S)) _ c),
  )

  cut_value : (S : ℕ) (t : State) → S < 2 ^ B.m → Summed t → run (cut_block B.n B.m S) t (Cut S) ≡ cut B S
  unfolding cut
  cut_value S t l h =
      let u : State = run (sum (Cut S) (Subset S) ZeroCell ∷ []) t in
      let bound : cut B S < modulus = omega (arith, cut_small B sound S) in
      let e : u (Cut S) ≡ subset_sum B.m (demand B) S
      = rw (eqb_same S, h.1 S l, h.0 ZeroCells refl 0 0 (lit< tt) (lit< tt)) (omega arith) in
      let r : run (loop B.m (λ a. loop B.m (cut_turn S a))) u (Cut S) ≡ u (Cut S) + sum_to B.m (λ a. sum_to B.m (λ b. on (leaves S a b) (capacity B a b)))
      = (accumulate Lines (Cut S) B.m (λ a. loop B.m (cut_turn S a)) (λ a. sum_to B.m (λ b. on (leaves S a b) (capacity B a b)))
      (λ a x. accumulate Lines (Cut S) B.m (cut_turn S a) (λ b. on (leaves S a b) (capacity B a b)) (λ b y. line_adds S a b x y))
      u (holds_keep (cell_tables B) (Cuts ∷ []) (Capacities ∷ ZeroCells ∷ []) refl (sum (Cut S) (Subset S) ZeroCell ∷ []) refl t h.0) (omega arith)).1 in
      r ∙ ap (λ (v : ℕ). v + sum_to B.m (λ a. sum_to B.m (λ b. on (leaves S a b) (capacity B a b)))) e

  cut_frame : (S : ℕ) → writes (among (Cuts ∷ [])) (cut_block B.n B.m S) ≡ true
  cut_frame S = writes_loop (among (Cuts ∷ [])) B.m (λ a. loop B.m (cut_turn S a)) (λ a _. writes_loop (among (Cuts ∷ [])) B.m (cut_turn S a) (λ b _. refl))

  pub cut_phase_lem : Phase (cell_tables B) (Demands ∷ Capacities ∷ ZeroCells ∷ []) Cuts (Subsets ∷ []) (subset_blocks B.n B.m Demand ++ loop (2 ^ B.m) (cut_block B.n B.m))
  cut_phase_lem =
      fill_after (cell_tables B) (Demands ∷ Capacities ∷ ZeroCells ∷ []) Cuts (Subsets ∷ []) refl refl (subset_blocks B.n B.m Demand)
      (cut_block B.n B.m) Summed (subsets_frame B.n B.m Demand)
      (λ S. rw (eqb_same S) (writes_loop (touches Cuts S (Subsets ∷ [])) B.m (λ a. loop B.m (cut_turn S a)) (λ a _. writes_loop (touches Cuts S (Subsets ∷ [])) B.m (cut_turn S a) (λ b _. rw (eqb_same S)))))
      (λ s h. (
        holds_keep (cell_tables B) (Subsets ∷ []) (Capacities ∷ ZeroCells ∷ []) refl (subset_blocks B.n B.m Demand) (subsets_frame B.n B.m Demand) s
            (holds_part (cell_tables B) (Demands ∷ Capacities ∷ ZeroCells ∷ []) (Capacities ∷ ZeroCells ∷ []) refl s h),
        subset_sums B.m Demand (λ p. refl) (demand B) (omega (arith, demands_small B sound)) s (λ p b. h Demands refl p 0 b (lit< tt)),
      ))
      (λ S t l h. (
        holds_keep (cell_tables B) (Cuts ∷ []) (Capacities ∷ ZeroCells ∷ []) refl (cut_block B.n B.m S) (cut_frame S) t h.0,
        λ R a. keep (among (Cuts ∷ [])) (cut_block B.n B.m S) (Subset R) t (cut_frame S) refl ∙ h.1 R a,
      ))
      (λ S j t a b h. rw (lt-one b) (cut_value S t a h))
