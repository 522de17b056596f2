-- The phases that fill the placements, the slacks and the flows; the slacks change from line to line.
use Rattle.std.specs.Prelude.{◌≡◌, ◌≢◌, ◌⊎◌, Bool, true, false, eqb}
use Rattle.std.proofs.Common.{refl, ap, ◌∙◌, inl, inr, eq-or-lt_of_le, le_of_suc-le-suc, not-suc-le-zero, arith, lit<, ne_eqb, not, cond, List, [], ◌∷◌, ◌++◌, ℕ, suc, ◌-◌, ◌*◌, ◌%◌, ◌/◌, ◌^◌, ◌≤◌, ◌<◌, min}
use Rattle.std.proofs.Math.Arith.{lt-one}
use Rattle.definitions.specs.Limits.{pool_limit}
use Rattle.definitions.specs.Arithmetic.{on, sum_to}
use Rattle.definitions.specs.Book.{Book, capacity}
use Rattle.laws.specs.Rows.{row_column}
use Rattle.laws.specs.Extremes.{min_to}
use Rattle.laws.specs.AcceptedBook.{pool_index, Sound}
use Rattle.theory.specs.ClosedBest.{size_total, amount_limit}
use Rattle.theory.proofs.ClosedBest.{placement_small, placement_cut, cut_small, slack_small, taken_slack, flow_and_rest}
use Rattle.plan.specs.Orders.{constant, sum, difference, run, State}
use Rattle.plan.specs.Residues.{plus_small, minus_small, times_on, min_small}
use Rattle.plan.specs.Loops.{loop, named_run_append, loop_invariant, among, writes, writes_append, writes_loop, eqb_same, loop_own}
use Rattle.plan.proofs.LoopFacts.{keep, keep_loop}
use Rattle.plan.proofs.Holds.{Holds, Phase, holds_keep, holds_part, touches, fill_column, fill_after}
use Rattle.plan.specs.Names.{Family, Name, same, Capacities, ZeroCells, Memberships, Subsets, Cuts, Uses, Placements, Slacks, Flows, Temporaries, ZeroCell, Temporary, Capacity, Flow, Subset, Placement, Slack}
use Rattle.plan.specs.Subsets.{leaves, subset_sum}
use Rattle.plan.specs.Running.{accumulate, gather, Lowers, lower, lowered}
use Rattle.plan.proofs.RunningFacts.{subset_sums}
use Rattle.plan.proofs.Values.{cell_tables, cut, used_amount, placement, slack, rest_of, flow_of, taken_of, slack_after, line_flow}
use Rattle.plan.specs.Blocks.{Block, placement_turn, slack_block, rest_cell, rest_turn, taken_cell, take_turn}
use Rattle.plan.specs.Table.{placement_block, subset_blocks, rest_block, take_block, line_block}
use Rattle.plan.proofs.Cuts.{subsets_frame}
use Rattle.plan.proofs.Bounds.{sum_limit_lem, used_small}

-- what a line writes: of the flows only its own
line_frame : (n m l a b : ℕ) → writes (among (Flows ∷ Temporaries ∷ Slacks ∷ [])) (rest_block n m a b ++ take_block n m l a b) ≡ true
line_frame n m l a b =
    let W : Name → Bool = among (Flows ∷ Temporaries ∷ Slacks ∷ []) in
    writes_append W (rest_block n m a b) (take_block n m l a b) (writes_loop W (2 ^ m) (rest_turn a b) (λ _ _. refl)) (writes_loop W (2 ^ m) (take_turn l a b) (λ _ _. refl))

line_off : (n m l a b k : ℕ) → k ≢ l → writes (λ c. not (same (Flow k) c)) (rest_block n m a b ++ take_block n m l a b) ≡ true
line_off n m l a b k h =
    let W : Name → Bool = λ c. not (same (Flow k) c) in
    writes_append W (rest_block n m a b) (take_block n m l a b) (writes_loop W (2 ^ m) (rest_turn a b) (λ _ _. refl)) (rw (ne_eqb k l h) (writes_loop W (2 ^ m) (take_turn l a b) (λ _ _. refl)))

module _ (B : Book) (sound : Sound B) where
  -- ---- what is used in each pool

  -- what a placement reads
  abbrev HoldsUses : State → Type 0
  HoldsUses = Holds (cell_tables B) (Memberships ∷ Uses ∷ [])

  placement_value : (p : ℕ) (t : State) → p < B.m → HoldsUses t → run (placement_block B.n B.m p) t (Placement p) ≡ placement B p
  unfolding placement
  placement_value p t b h =
      (gather HoldsUses (Placement p) (loop B.n (placement_turn p)) (placement B p)
      (holds_keep (cell_tables B) (Placements ∷ []) (Memberships ∷ Uses ∷ []) refl (constant (Placement p) 0 ∷ []) refl)
      (accumulate HoldsUses (Placement p) B.n (placement_turn p) (λ i. on (eqb (pool_index B i) p) (used_amount B i))
      (λ i l r g c. (
        holds_keep (cell_tables B) (Placements ∷ Temporaries ∷ []) (Memberships ∷ Uses ∷ []) refl (placement_turn p i) refl r g,
        rw (eqb_same p, g Memberships refl i p l b, g Uses refl i 0 l (lit< tt), times_on (eqb (pool_index B i) p) (used_amount B i) (omega (arith, used_small B sound i l)))
            (plus_small (r (Placement p)) (on (eqb (pool_index B i) p) (used_amount B i)) c),
      )))
      t h (omega (arith, placement_small B sound p))).1

  pub placement_phase_lem : Phase (cell_tables B) (Memberships ∷ Uses ∷ []) Placements (Temporaries ∷ []) (loop B.m (placement_block B.n B.m))
  placement_phase_lem = fill_column (cell_tables B) (Memberships ∷ Uses ∷ []) Placements (Temporaries ∷ []) refl refl refl (placement_block B.n B.m)
      (λ p. rw (eqb_same p) (writes_loop (touches Placements p (Temporaries ∷ [])) B.n (placement_turn p) (λ i _. rw (eqb_same p)))) placement_value

  -- ---- the slacks before the first line

  -- the cuts, and the placements' sums over all sets
  abbrev Summed : State → Type 0
  Summed t = Holds (cell_tables B) (Cuts ∷ []) t × ((S : ℕ) → S < 2 ^ B.m → t (Subset S) ≡ subset_sum B.m (placement B) S)

  placements_small : sum_to B.m (placement B) ≤ pool_limit * size_total
  placements_small = sum_limit_lem B.m pool_limit (placement B) size_total sound.pools (λ p _. placement_small B sound p)

  pub slack_phase_lem : Phase (cell_tables B) (Placements ∷ Cuts ∷ []) Slacks (Subsets ∷ []) (subset_blocks B.n B.m Placement ++ loop (2 ^ B.m) slack_block)
  unfolding slack
  slack_phase_lem =
      fill_after (cell_tables B) (Placements ∷ Cuts ∷ []) Slacks (Subsets ∷ []) refl refl (subset_blocks B.n B.m Placement) slack_block Summed (subsets_frame B.n B.m Placement)
      (λ S. rw (eqb_same S))
      (λ s h. (
        holds_keep (cell_tables B) (Subsets ∷ []) (Cuts ∷ []) refl (subset_blocks B.n B.m Placement) (subsets_frame B.n B.m Placement) s (holds_part (cell_tables B) (Placements ∷ Cuts ∷ []) (Cuts ∷ []) refl s h),
        subset_sums B.m Placement (λ p. refl) (placement B) (omega (arith, placements_small)) s (λ p b. h Placements refl p 0 b (lit< tt)),
      ))
      (λ S t l h. (holds_keep (cell_tables B) (Slacks ∷ []) (Cuts ∷ []) refl (slack_block S) refl t h.0, λ R a. h.1 R a))
      (λ S j t a b h. rw (lt-one b, eqb_same S, h.0 Cuts refl S 0 a (lit< tt), h.1 S a)
      (minus_small (cut B S) (subset_sum B.m (placement B) S) (omega (arith, cut_small B sound S)) (placement_cut B sound S)))

  -- ---- one line, a to b, with slacks x

  -- what a line reads of the families that keep what they hold
  abbrev line_reads : List Family
  line_reads = Capacities ∷ ZeroCells ∷ []

  module _ (x : ℕ → ℕ) (l a b : ℕ) (la : a < B.m) (lb : b < B.m) (small : (S : ℕ) → x S ≤ amount_limit) (fits : (S : ℕ) → S < 2 ^ B.m → taken_of B x a b S ≤ x S) where
    -- that, and slacks x
    abbrev HoldsSlacks : State → Type 0
    HoldsSlacks t = Holds (cell_tables B) line_reads t × ((S : ℕ) → S < 2 ^ B.m → t (Slack S) ≡ x S)

    slacks_keep : (o : Block) → writes (among (Temporaries ∷ Flows ∷ [])) o ≡ true → (t : State) → HoldsSlacks t → HoldsSlacks (run o t)
    slacks_keep o w t g = (
      holds_keep (cell_tables B) (Temporaries ∷ Flows ∷ []) line_reads refl o w t g.0,
      λ S c. keep (among (Temporaries ∷ Flows ∷ [])) o (Slack S) t w refl ∙ g.1 S c,
    )

    rest_lowers : (S : ℕ) → S < 2 ^ B.m → Lowers HoldsSlacks (Temporary 2) (rest_turn a b S) (cond (leaves S a b) (x S) (capacity B a b))
    rest_lowers S c t g h = (slacks_keep (rest_turn a b S) refl t g, go (leaves S a b))
      where
        go : (u : Bool) → run (lowered (Temporary 2) (rest_cell u S a b)) t (Temporary 2) ≡ min (t (Temporary 2)) (cond u (x S) (capacity B a b))
        go true = rw (g.1 S c) (min_small (t (Temporary 2)) (x S) h (omega (arith, small S)))
        go false = rw (g.0 Capacities refl a b la lb) (min_small (t (Temporary 2)) (capacity B a b) h (omega (arith, sound.capacity_small a b la lb)))

    rest_value : (t : State) → HoldsSlacks t → HoldsSlacks (run (rest_block B.n B.m a b) t) × (run (rest_block B.n B.m a b) t (Temporary 2) ≡ rest_of B x a b)
    unfolding rest_of
    rest_value t g =
        let one : Block = sum (Temporary 2) (Capacity a b) ZeroCell ∷ [] in
        let u : State = run one t in
        let least : ℕ → ℕ = λ c. min_to c (2 ^ B.m) (λ S. cond (leaves S a b) (x S) (capacity B a b)) in
        let e : u (Temporary 2) ≡ capacity B a b
        = rw (g.0 Capacities refl a b la lb, g.0 ZeroCells refl 0 0 (lit< tt) (lit< tt)) (omega (arith, sound.capacity_small a b la lb)) in
        let r : HoldsSlacks (run (loop (2 ^ B.m) (rest_turn a b)) u) × (run (loop (2 ^ B.m) (rest_turn a b)) u (Temporary 2) ≡ least (u (Temporary 2)))
        = lower HoldsSlacks (Temporary 2) (2 ^ B.m) (rest_turn a b) (λ S. cond (leaves S a b) (x S) (capacity B a b)) rest_lowers u
        (slacks_keep one refl t g) (omega (arith, sound.capacity_small a b la lb)) in
        (r.0, r.1 ∙ ap least e)

    -- from a state that holds the slacks, the rest and the flow
    take_value : (t : State) → HoldsSlacks t → t (Temporary 2) ≡ rest_of B x a b → t (Flow l) ≡ flow_of B x a b → (S : ℕ) → S < 2 ^ B.m
        → run (loop (2 ^ B.m) (take_turn l a b)) t (Slack S) ≡ x S - taken_of B x a b S
    take_value t g r f S c =
        let own : (run (loop (2 ^ B.m) (take_turn l a b)) t (Slack S) ≡ run (take_turn l a b S) (run (loop S (take_turn l a b)) t) (Slack S)) × (run (loop S (take_turn l a b)) t (Slack S) ≡ t (Slack S))
        = loop_own (2 ^ B.m) (take_turn l a b) (Slack S) t S c (λ q w ne. rw (ne_eqb q S ne)) in
        own.0 ∙ rw (eqb_same S, own.1, g.1 S c, taken (leaves S a b) (leaves S b a))
        (minus_small (x S) (taken_of B x a b S) (omega (arith, small S)) (fits S c))
      where
        u : State
        u = run (loop S (take_turn l a b)) t

        kept : (d : Name) → among (Slacks ∷ []) d ≡ false → u d ≡ t d
        kept d e = keep_loop (among (Slacks ∷ [])) S (take_turn l a b) d t (λ _ _. refl) e

        taken : (v w : Bool) → u (taken_cell v w l) ≡ cond v (rest_of B x a b) (on w (flow_of B x a b))
        taken true w = kept (Temporary 2) refl ∙ r
        taken false true = kept (Flow l) refl ∙ f
        taken false false = kept ZeroCell refl ∙ g.0 ZeroCells refl 0 0 (lit< tt) (lit< tt)

    take_frame : writes (among (Slacks ∷ [])) (loop (2 ^ B.m) (take_turn l a b)) ≡ true
    take_frame = writes_loop (among (Slacks ∷ [])) (2 ^ B.m) (take_turn l a b) (λ _ _. refl)

    flow_value : (t : State) → HoldsSlacks t → t (Temporary 2) ≡ rest_of B x a b
        → (run (take_block B.n B.m l a b) t (Flow l) ≡ flow_of B x a b) × ((S : ℕ) → S < 2 ^ B.m → run (take_block B.n B.m l a b) t (Slack S) ≡ x S - taken_of B x a b S)
    unfolding flow_of
    flow_value t g r =
        let one : Block = difference (Flow l) (Capacity a b) (Temporary 2) ∷ [] in
        let u : State = run one t in
        let e : u (Flow l) ≡ flow_of B x a b
        = rw (eqb_same l, g.0 Capacities refl a b la lb, r)
        (minus_small (capacity B a b) (rest_of B x a b) (omega (arith, sound.capacity_small a b la lb)) (omega (arith, flow_and_rest B sound x a b))) in (
          keep (among (Slacks ∷ [])) (loop (2 ^ B.m) (take_turn l a b)) (Flow l) u take_frame refl ∙ e,
          take_value u (slacks_keep one refl t g) r e,
        )

  -- ---- all the lines

  -- the slacks after k lines, and their flows
  abbrev Fixed : ℕ → State → Type 0
  Fixed k t = Holds (cell_tables B) line_reads t × ((S : ℕ) → S < 2 ^ B.m → t (Slack S) ≡ slack_after B k S) × ((q : ℕ) → q < k → t (Flow q) ≡ line_flow B q)

  line_turn : (l : ℕ) (t : State) → l < B.m * B.m → Fixed l t → Fixed (suc l) (run (line_block B.n B.m l) t)
  unfolding slack_after
  line_turn l t h i =
      let a : ℕ = l / B.m in
      let b : ℕ = l % B.m in
      let x : ℕ → ℕ = slack_after B l in
      let la : a < B.m = (row_column B.m l h).row in
      let lb : b < B.m = (row_column B.m l h).column in
      let small : (S : ℕ) → x S ≤ amount_limit = slack_small B sound l in
      let fits : (S : ℕ) → S < 2 ^ B.m → taken_of B x a b S ≤ x S = λ S _. taken_slack B sound l S h in
      let rested : State = run (rest_block B.n B.m a b) t in
      let taken : State = run (take_block B.n B.m l a b) rested in
      let first : HoldsSlacks x l a b la lb small fits rested × (rested (Temporary 2) ≡ rest_of B x a b) = rest_value x l a b la lb small fits t (i.0, i.1) in
      let r : (taken (Flow l) ≡ flow_of B x a b) × ((S : ℕ) → S < 2 ^ B.m → taken (Slack S) ≡ x S - taken_of B x a b S)
      = flow_value x l a b la lb small fits rested first.0 first.1 in
      let e : run (line_block B.n B.m l) t ≡ taken = named_run_append (rest_block B.n B.m a b) (take_block B.n B.m l a b) t in (
        holds_keep (cell_tables B) (Flows ∷ Temporaries ∷ Slacks ∷ []) line_reads refl (line_block B.n B.m l) (line_frame B.n B.m l a b) t i.0,
        λ S c. ap (λ (w : State). w (Slack S)) e ∙ r.1 S c,
        λ q c. go q (eq-or-lt_of_le (le_of_suc-le-suc c)) (ap (λ (w : State). w (Flow l)) e ∙ r.0)
            (λ k ne. keep (λ d. not (same (Flow k) d)) (line_block B.n B.m l) (Flow k) t (line_off B.n B.m l a b k ne) (rw (eqb_same k))),
      )
    where
      go : (q : ℕ) → (q ≡ l) ⊎ (q < l) → run (line_block B.n B.m l) t (Flow l) ≡ line_flow B l → ((k : ℕ) → k ≢ l → run (line_block B.n B.m l) t (Flow k) ≡ t (Flow k))
          → run (line_block B.n B.m l) t (Flow q) ≡ line_flow B q
      go q (inl e) f k = rw e f
      go q (inr c) f k = k q (omega arith) ∙ i.2 q c

  pub flow_phase : Phase (cell_tables B) (Slacks ∷ Capacities ∷ ZeroCells ∷ []) Flows (Temporaries ∷ Slacks ∷ []) (loop (B.m * B.m) (line_block B.n B.m))
  unfolding slack_after
  flow_phase = record {
    fills = λ s h l j a b. rw (lt-one b)
        ((loop_invariant Fixed (B.m * B.m) (line_block B.n B.m) s
        (holds_part (cell_tables B) (Slacks ∷ Capacities ∷ ZeroCells ∷ []) line_reads refl s h, λ S c. h Slacks refl S 0 c (lit< tt), λ q c. absurd (not-suc-le-zero c)) line_turn).2 l a);
    frame = writes_loop (among (Flows ∷ Temporaries ∷ Slacks ∷ [])) (B.m * B.m) (line_block B.n B.m) (λ l _. line_frame B.n B.m l (l / B.m) (l % B.m));
  }
