-- Every order of the work names cells of the families' tables and writes no input (`work_each`).
use Rattle.std.specs.Prelude.{Bool, true, false, cond, [], ◌∷◌, ℕ, ◌+◌, ◌*◌, ◌%◌, ◌/◌, ◌^◌, ◌≤◌, ◌<◌, ltb}
use Rattle.std.proofs.Common.{arith}
use Rattle.std.proofs.Math.Arith.{digits_lt}
use Rattle.definitions.specs.Limits.{modulus}
use Rattle.laws.specs.Rows.{row_column}
use Rattle.laws.specs.Tests.{Eq?, same, diff, eq?}
use Rattle.plan.specs.Orders.{OrderOn, constant, operate}
use Rattle.plan.specs.Layout.{Named}
use Rattle.plan.specs.Names.{Family, number, Name, at, family, Amounts, SizesBefore, SizesWith, RanksBefore, RanksWith, family_count, rows_of, columns_of, Capacity, Temporary, ZeroCell, Demand, Placement, ReachTest, PoolMargin, BestMargin}
use Rattle.plan.specs.Subsets.{leaves, lowest, others, lowest_below, others_below}
use Rattle.plan.specs.Running.{subset_order, subset_block, lowered}
use Rattle.plan.specs.Blocks.{cut_turn, test_at, test_order, gain_turn, cost_turn, rest_start, rest_cell, rest_turn, flow_block, taken_cell, take_turn, reach_cell, reach_turn, greatest_turn}
use Rattle.plan.specs.Loops.{loop}
use Rattle.plan.specs.Entries.{◌&◌, All, all_loop}
use Rattle.plan.specs.Phased.{EachPart, EachPhase}
use Rattle.plan.specs.Table.{cut_block, size_before_turn, rank_phase, work}

module _ (n m : ℕ) where
  -- a name that has a cell
  abbrev pub Valid : Name → Type 0
  Valid c = Named (rows_of n m) (columns_of n m) family_count c

  -- an order on such cells, whose target is no input
  abbrev pub Proper : OrderOn Name → Type 0
  Proper (constant d k) = Valid d × (number Amounts ≤ number (family d)) × (k < modulus)
  Proper (operate op d a b) = Valid d × (number Amounts ≤ number (family d)) × Valid a × Valid b

  chosen_valid : (x : Bool) (c : Name) → Valid c → Valid (cond x c ZeroCell)
  chosen_valid true c h = h
  chosen_valid false c h = omega arith

  subset_proper : (X : ℕ → Name) → ((p : ℕ) → p < m → Valid (X p)) → (S : ℕ) → S < 2 ^ m → All Proper (subset_block m X S)
  subset_proper X ok S l = go (eq? S 0)
    where
      go : {z : Bool} → Eq? S 0 z → All Proper (subset_order z m X S ∷ [])
      go (same e) = omega arith
      go (diff e) = let other : others m S < 2 ^ m = omega (arith, others_below m S (omega arith) l) in
          ((omega arith, omega arith, omega arith, ok (lowest m S) (lowest_below m S (omega arith) l)), tt)

  cut_proper : (S : ℕ) → S < 2 ^ m → All Proper (cut_block n m S)
  cut_proper S l = (
    omega arith,
    all_loop Proper m (λ a. loop m (cut_turn S a)) (λ a x. all_loop Proper m (cut_turn S a)
        (λ b y. ((omega arith, omega arith, omega arith, chosen_valid (leaves S a b) (Capacity a b) (omega arith)), tt))),
  )

  test_proper : (i j : ℕ) → i < n → j < n → Proper (test_order i j)
  test_proper i j a b = go (ltb j i) (ltb i j)
    where
      go : (x y : Bool) → Proper (test_at x y i j)
      go true y = omega arith
      go false true = omega arith
      go false false = omega arith

  turn_proper : (i j : ℕ) → i < n → j < n → All Proper (size_before_turn n m i j)
  turn_proper i j a b = (test_proper i j a b, all_loop Proper m (gain_turn i j) (λ p l. omega arith))

  -- a cost in cell i of family u
  cost_proper : (u : Family) (i S : ℕ) → Valid (at u i 0) → number Amounts ≤ number u → S < 2 ^ m → All Proper (cost_turn m (at u i 0) S)
  cost_proper u i S v h l =
      omega arith
      & (omega arith, omega arith, omega arith, v)
      & (omega arith, omega arith, omega arith, v)
      & omega arith
      & (v, h, v, omega arith)
      & tt

  -- ranks in family u of the sizes in family t
  rank_proper : (t u : Family) → ((i p : ℕ) → i < n → p < m → Valid (at t i p)) → ((i : ℕ) → i < n → Valid (at u i 0)) → number Amounts ≤ number u
      → EachPart Proper n (rank_phase n m (at t) (λ i. at u i 0)).parts
  rank_proper t u sizes ranks h =
      (λ i S a b. subset_proper (at t i) (λ p l. sizes i p a l) S b)
      & (λ i _ a _. (ranks i a, h, omega arith) & tt)
      & (λ i S a b. cost_proper u i S (ranks i a) h b)
      & tt

  -- whether pool l / m reaches pool l % m, by set S
  reach_proper : (l S : ℕ) → l < m * m → S < 2 ^ m → All Proper (reach_turn l (l / m) (l % m) S)
  reach_proper l S h c = ((omega arith, omega arith, omega arith, go (leaves S (l / m) (l % m))), tt)
    where
      go : (x : Bool) → Valid (reach_cell x S)
      go true = omega arith
      go false = omega arith

  -- the best margin of pool p, by pool q
  best_proper : (p q : ℕ) → p < m → q < m → All Proper (greatest_turn (BestMargin p) (ReachTest (q * m + p)) (PoolMargin q))
  best_proper p q a b = let line : q * m + p < m * m = digits_lt b a in omega arith & omega arith

  -- ---- line l

  module _ (l : ℕ) (h : l < m * m) where
    -- where it begins
    abbrev a : ℕ
    a = l / m

    -- where it ends
    abbrev b : ℕ
    b = l % m

    capacity_valid : Valid (Capacity a b)
    capacity_valid = (omega arith, (row_column m l h).row, (row_column m l h).column)

    -- its first order, and that of its flow
    line_proper : All Proper (rest_start a b) × All Proper (flow_block l a b)
    line_proper = (((omega arith, omega arith, capacity_valid, omega arith), tt), ((omega arith, omega arith, capacity_valid, omega arith), tt))

    rest_proper : (S : ℕ) → S < 2 ^ m → All Proper (rest_turn a b S)
    rest_proper S c = go (leaves S a b)
      where
        rest_valid : (x : Bool) → Valid (rest_cell x S a b)
        rest_valid true = omega arith
        rest_valid false = capacity_valid

        go : (x : Bool) → All Proper (lowered (Temporary 2) (rest_cell x S a b))
        go x = (omega arith, omega arith, rest_valid x, omega arith) & (omega arith, omega arith, rest_valid x, omega arith) & omega arith

    take_proper : (S : ℕ) → S < 2 ^ m → All Proper (take_turn l a b S)
    take_proper S c = ((omega arith, omega arith, omega arith, go (leaves S a b) (leaves S b a)), tt)
      where
        go : (x y : Bool) → Valid (taken_cell x y l)
        go true y = omega arith
        go false true = omega arith
        go false false = omega arith

  -- ---- the table

  pub work_each : m < modulus → EachPhase Proper (work n m)
  unfolding work
  work_each h =
      ((λ i j a b. omega arith) & tt)
      & ((λ i j a b. omega arith) & tt)
      & ((λ i j a b. omega arith) & tt)
      & ((λ i j a b. omega arith) & tt)
      & ((λ p j a b. omega arith) & tt)
      & ((λ i j a b. omega arith) & tt)
      & ((λ i j a b. omega arith) & tt)
      & ((λ i j a b. omega arith) & tt)
      & ((λ i j a b. omega arith) & tt)
      & ((λ i j a b. omega arith) & tt)
      & ((λ i j a b. omega arith) & tt)
      & ((λ i j a b. omega arith) & tt)
      & ((λ i p a b. omega arith) & tt)
      & ((λ i p a b. omega arith) & tt)
      & ((λ p j a b. omega arith) & (λ p i a b. omega arith) & tt)
      & ((λ _ S a b. subset_proper Demand (λ p l. omega arith) S b) & (λ _ S a b. cut_proper S b) & tt)
      & ((λ i p a b. omega arith) & turn_proper & tt)
      & rank_proper SizesBefore RanksBefore (λ i p a b. omega arith) (λ i a. omega arith) (omega arith)
      & ((λ i p a b. omega arith) & tt)
      & rank_proper SizesWith RanksWith (λ i p a b. omega arith) (λ i a. omega arith) (omega arith)
      & ((λ i j a b. omega arith) & tt)
      & ((λ i j a b. omega arith) & tt)
      & ((λ p j a b. omega arith) & (λ p i a b. omega arith) & tt)
      & ((λ _ S a b. subset_proper Placement (λ p l. omega arith) S b) & (λ _ S a b. omega arith) & tt)
      & ((λ _ S a b. omega arith) & tt)
      & ((λ l j a b. omega arith) & (λ l S a b. reach_proper l S a b) & tt)
      & ((λ l j a b. (line_proper l a).0) & (λ l S a b. rest_proper l a S b) & (λ l j a b. (line_proper l a).1) & (λ l S a b. take_proper l a S b) & tt)
      & ((λ i j a b. omega arith) & tt)
      & ((λ p j a b. omega arith) & (λ p i a b. omega arith & omega arith) & tt)
      & ((λ p j a b. omega arith) & (λ p q a b. best_proper p q a b) & tt)
      & ((λ i p a b. omega arith) & tt)
      & ((λ p j a b. omega arith) & (λ p i a b. omega arith & omega arith) & tt)
      & ((λ p j a b. omega arith) & tt)
      & tt
