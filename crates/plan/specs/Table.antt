-- The plan, said once: its phases in their order (`table`), each with its rows, parts and blocks, from n and m only. Behind each phase of several parts
-- stand the names of its rows that the laws of the phases use.
use Rattle.std.specs.Prelude.{◌≡◌, refl, List, [], ◌∷◌, ◌++◌, ℕ, ◌+◌, ◌-◌, ◌*◌, ◌%◌, ◌/◌, ◌^◌, length}
use Rattle.std.proofs.Common.{arith}
use Rattle.definitions.specs.Arithmetic.{sum_to}
use Rattle.plan.specs.Orders.{OrderOn}
use Rattle.plan.specs.Names.{Temporaries, number, family_at, family_count, rows_of, columns_of, Name, Demand, SizeBefore, RankBefore, SizeWith, RankWith, Placement, Membership, ReachTest, Margin, PoolMargin, BestMargin, RaisedWhole, PriceTest, PoolWhole}
use Rattle.plan.specs.Running.{subset_block}
use Rattle.plan.specs.Blocks.{Block, unit_block, hundred_block, shift_block, top_block, pool_number_block, side_block, size_block, raised_whole_block, raised_price_block, double_block, key_block, next_block, membership_block, pool_size_block, demand_start, demand_turn, cut_start, cut_turn, test_order, gain_turn, size_before_start, cost_start, cost_turn, size_with_block, use_block, amount_block, placement_start, placement_turn, slack_block, rest_start, rest_turn, flow_block, take_turn, slack_test_block, reach_start, reach_turn, margin_block, greatest_start, greatest_turn, price_test_block, price_block, zero_block}
use Rattle.plan.specs.Loops.{loop}
use Rattle.plan.specs.Phased.{PartOf, PhaseOf, part, phase, stretch, row_of, even_length, phase_in}

-- a part of a phase of orders over names
abbrev pub Part : Type 0
Part = PartOf (OrderOn Name)

-- a phase of such parts
abbrev pub Phase : Type 0
Phase = PhaseOf (OrderOn Name)

-- one block in each row
abbrev pub each : (turn : ℕ) (block : ℕ → Block) → ((i : ℕ) → length (block i) ≡ turn) → Part
each t f e = part 1 t (λ i _. f i) (λ i _. e i)

module _ (n m : ℕ) where
  -- the sums of the cells X i over all sets, in row i
  abbrev pub subset_part : (ℕ → ℕ → Name) → Part
  subset_part X = part (2 ^ m) 1 (λ i. subset_block m (X i)) (λ i S. refl)

  -- such a part as a list
  abbrev pub subset_blocks : (ℕ → Name) → Block
  subset_blocks X = stretch 0 (subset_part (λ _. X))

  -- ---- the demand of each pool

  -- its start, then a turn for each bid
  abbrev pub demand_phase : Phase
  demand_phase = phase m (each 1 demand_start (λ p. refl) ∷ part n 2 demand_turn (λ p i. refl) ∷ [])

  -- row p: the demand of pool p
  abbrev pub demand_block : ℕ → Block
  demand_block p = row_of demand_phase p

  -- ---- the cut of each set

  -- all the lines that leave the set are added
  abbrev pub cut_block : ℕ → Block
  cut_block S = cut_start S ++ loop m (λ a. loop m (cut_turn S a))

  pub cut_length : (S : ℕ) → length (cut_block S) ≡ 1 + m * m
  cut_length S = omega (arith, even_length (λ a. loop m (cut_turn S a)) m m (λ a. one a))
    where
      one : (a : ℕ) → length (loop m (cut_turn S a)) ≡ m
      one a = omega (arith, even_length (cut_turn S a) 1 m (λ b. refl))

  -- the demands' sums over all sets, then the cuts
  abbrev pub cut_phase : Phase
  cut_phase = phase 1 (subset_part (λ _. Demand) ∷ part (2 ^ m) (1 + m * m) (λ _. cut_block) (λ _. cut_length) ∷ [])

  -- ---- the sizes before each bid, pool by pool

  -- bid j tested against bid i, and its gain in each pool
  abbrev pub size_before_turn : (i j : ℕ) → Block
  size_before_turn i j = test_order i j ∷ loop m (gain_turn i j)

  pub size_before_length : (i j : ℕ) → length (size_before_turn i j) ≡ 1 + m * 2
  size_before_length i j = omega (arith, even_length (gain_turn i j) 2 m (λ p. refl))

  -- a start for each pool, then a turn for each bid
  abbrev pub size_before_phase : Phase
  size_before_phase = phase n (part m 1 size_before_start (λ i p. refl) ∷ part n (1 + m * 2) size_before_turn size_before_length ∷ [])

  -- row i: the sizes before bid i
  abbrev pub size_before_block : ℕ → Block
  size_before_block i = row_of size_before_phase i

  -- ---- the rank of bids whose sizes stand in the cells X i, in d i: the least cost over all sets

  -- the sizes' sums over all sets, a start, then a turn for each set
  abbrev pub rank_phase : (ℕ → ℕ → Name) → (ℕ → Name) → Phase
  rank_phase X d = phase n (subset_part X ∷ each 1 (λ i. cost_start (d i)) (λ i. refl) ∷ part (2 ^ m) 5 (λ i. cost_turn m (d i)) (λ i S. refl) ∷ [])

  -- the least cost alone
  abbrev pub cost_block : Name → Block
  cost_block d = cost_start d ++ loop (2 ^ m) (cost_turn m d)

  -- a row of it
  abbrev pub rank_block : (ℕ → Name) → Name → Block
  rank_block X d = row_of (rank_phase (λ _. X) (λ _. d)) 0

  -- ---- what is used in each pool

  -- its start, then a turn for each bid
  abbrev pub placement_phase : Phase
  placement_phase = phase m (each 1 placement_start (λ p. refl) ∷ part n 2 placement_turn (λ p i. refl) ∷ [])

  -- row p: what is used in pool p
  abbrev pub placement_block : ℕ → Block
  placement_block p = row_of placement_phase p

  -- ---- the slacks before the first line

  -- the placements' sums over all sets, then the slacks
  abbrev pub slack_phase : Phase
  slack_phase = phase 1 (subset_part (λ _. Placement) ∷ part (2 ^ m) 1 (λ _. slack_block) (λ _ S. refl) ∷ [])

  -- ---- whether pool l / m reaches pool l % m: it does if every set that holds the first without the second has slack; before the lines use the slacks up

  -- a start, then a turn for each set
  abbrev pub reach_phase : Phase
  reach_phase = phase (m * m) (each 1 reach_start (λ l. refl) ∷ part (2 ^ m) 1 (λ l. reach_turn l (l / m) (l % m)) (λ l S. refl) ∷ [])

  -- row l: that test
  abbrev pub reach_block : ℕ → Block
  reach_block l = row_of reach_phase l

  -- ---- line l, from l / m to l % m: what it leaves unused, its flow, and the slacks after it

  -- the rest's start and a turn for each set, the flow, and a turn for each set
  abbrev pub line_phase : Phase
  line_phase =
      phase (m * m)
      (each 1 (λ l. rest_start (l / m) (l % m)) (λ l. refl)
      ∷ part (2 ^ m) 4 (λ l. rest_turn (l / m) (l % m)) (λ l S. refl)
      ∷ each 1 (λ l. flow_block l (l / m) (l % m)) (λ l. refl)
      ∷ part (2 ^ m) 1 (λ l. take_turn l (l / m) (l % m)) (λ l S. refl)
      ∷ [])

  -- what line a to b leaves unused
  abbrev pub rest_block : (a b : ℕ) → Block
  rest_block a b = rest_start a b ++ loop (2 ^ m) (rest_turn a b)

  -- the flow of line l, a to b, and the slacks after it
  abbrev pub take_block : (l a b : ℕ) → Block
  take_block l a b = flow_block l a b ++ loop (2 ^ m) (take_turn l a b)

  -- row l: line l
  abbrev pub line_block : ℕ → Block
  line_block l = row_of line_phase l

  -- ---- the greatest in d p over some columns of the products of test p i and number i: in each pool of its bids' margins, then of the pools that reach it;
  -- and of the whole parts of the bids that have its price

  -- a start, then a turn for each column
  abbrev pub greatest_phase : (columns : ℕ) → (ℕ → Name) → (ℕ → ℕ → Name) → (ℕ → Name) → Phase
  greatest_phase columns d test number =
      phase m (each 1 (λ p. greatest_start (d p)) (λ p. refl) ∷ part columns 5 (λ p i. greatest_turn (d p) (test p i) (number i)) (λ p i. refl) ∷ [])

  -- row p
  abbrev pub greatest_block : (columns : ℕ) → (ℕ → Name) → (ℕ → ℕ → Name) → (ℕ → Name) → ℕ → Block
  greatest_block columns d test number p = row_of (greatest_phase columns d test number) p

  -- of the margins of a pool's bids
  abbrev pub pool_margin_phase : Phase
  pool_margin_phase = greatest_phase n PoolMargin (λ p i. Membership i p) Margin

  -- of the pools that reach a pool
  abbrev pub best_margin_phase : Phase
  best_margin_phase = greatest_phase m BestMargin (λ p q. ReachTest (q * m + p)) PoolMargin

  -- of the whole parts of the bids that have a pool's price, which are one number if it has one
  abbrev pub pool_whole_phase : Phase
  pool_whole_phase = greatest_phase n PoolWhole (λ p i. PriceTest i p) RaisedWhole

  -- ---- the scratch

  -- how many scratch cells have names: those of the families from the temporaries on
  unfoldable pub scratch_count : ℕ
  scratch_count = sum_to (family_count - number Temporaries) (λ k. let f = family_at (number Temporaries + k) in rows_of n m f * columns_of n m f)

  -- 0 in each of them
  abbrev pub zero_phase : Phase
  zero_phase = phase 1 (part scratch_count 1 (λ _. zero_block) (λ _ c. refl) ∷ [])

  -- ---- the table

  -- the phases that fill the cells with names, each family by one phase
  unfoldable pub work : List Phase
  work =
      phase 1 (each 1 unit_block (λ i. refl) ∷ [])
      ∷ phase 1 (each 1 hundred_block (λ i. refl) ∷ [])
      ∷ phase 1 (each 1 shift_block (λ i. refl) ∷ [])
      ∷ phase 1 (each 1 top_block (λ i. refl) ∷ [])
      ∷ phase m (each 1 pool_number_block (λ p. refl) ∷ [])
      ∷ phase n (each 1 side_block (λ i. refl) ∷ [])
      ∷ phase n (each 3 size_block (λ i. refl) ∷ [])
      ∷ phase n (each 1 raised_whole_block (λ i. refl) ∷ [])
      ∷ phase n (each 2 raised_price_block (λ i. refl) ∷ [])
      ∷ phase n (each 1 double_block (λ i. refl) ∷ [])
      ∷ phase n (each 1 key_block (λ i. refl) ∷ [])
      ∷ phase n (each 1 next_block (λ i. refl) ∷ [])
      ∷ phase n (part m 1 membership_block (λ i p. refl) ∷ [])
      ∷ phase n (part m 1 pool_size_block (λ i p. refl) ∷ [])
      ∷ demand_phase
      ∷ cut_phase
      ∷ size_before_phase
      ∷ rank_phase SizeBefore RankBefore
      ∷ phase n (part m 1 size_with_block (λ i p. refl) ∷ [])
      ∷ rank_phase SizeWith RankWith
      ∷ phase n (each 1 use_block (λ i. refl) ∷ [])
      ∷ phase n (each 4 amount_block (λ i. refl) ∷ [])
      ∷ placement_phase
      ∷ slack_phase
      ∷ phase 1 (part (2 ^ m) 1 (λ _. slack_test_block) (λ _ S. refl) ∷ [])
      ∷ reach_phase
      ∷ line_phase
      ∷ phase n (each 3 margin_block (λ i. refl) ∷ [])
      ∷ pool_margin_phase
      ∷ best_margin_phase
      ∷ phase n (part m 1 price_test_block (λ i p. refl) ∷ [])
      ∷ pool_whole_phase
      ∷ phase m (each 7 price_block (λ p. refl) ∷ [])
      ∷ []

  -- the work, then the zeros
  unfoldable pub table : List Phase
  table = work ++ (zero_phase ∷ [])

  -- phase k of the table
  unfoldable pub phase_at : ℕ → Phase
  phase_at k = phase_in table k

-- how many phases the table has
abbrev pub phase_count : ℕ
phase_count = 34

pub table_length : (n m : ℕ) → length (table n m) ≡ phase_count
unfolding table work
table_length n m = refl
