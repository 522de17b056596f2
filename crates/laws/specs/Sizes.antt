-- What counts, a number of results and a book's lengths are, if they are not refused.
use Rattle.std.specs.Prelude.{ℕ, ◌*◌, ◌≤◌, ◌≡◌, refl, Bool, true, false, cond, ◌&&◌, ◌||◌, ltb, eqb, length}
use Rattle.std.proofs.Common.{arith, ltb-false, eqb-true}
use Rattle.std.proofs.lemmas.Bool.{eqb-false}
use Rattle.definitions.specs.Limits.{bid_limit, pool_limit, cell_count, bid_numbers}
use Rattle.definitions.specs.Answers.{Refusal, none, refuse, first}
use Rattle.definitions.specs.Book.{Book}
use Rattle.definitions.specs.Sheet.{result_count}
use Rattle.definitions.specs.Calls.{pools_refusal, counts_refusal, length_refusal, tables_right, bids_refusal, capacities_refusal, seal_refusal, results_refusal}
use Rattle.std.specs.Cmp.{first_so, second_so}
use Rattle.laws.specs.Refusal.{not_refused, test_passed, first_left, first_right}

-- what a count of pools that is not refused is within
pub record PoolCount (m : ℕ) : Type 0 where
  pub least : 1 ≤ m
  pub most : m ≤ pool_limit

pub pools_counted : (m : ℕ) → pools_refusal m ≡ none → PoolCount m
pools_counted m = go (eqb m 0) (ltb pool_limit m) refl refl
  where
    go : (a b : Bool) → eqb m 0 ≡ a → ltb pool_limit m ≡ b → cond (a || b) (refuse 2 0) none ≡ none → PoolCount m
    go true b p q e = not_refused e
    go false true p q e = not_refused e
    go false false p q e = let h : m ≡ 0 → ⊥ = eqb-false m 0 p in record { least = omega arith; most = ltb-false pool_limit m q }

-- what both counts are within
pub record Counts (n m : ℕ) : Type 0 where
  pub bids : n ≤ bid_limit
  pub pools : PoolCount m

pub counted : (n m : ℕ) → counts_refusal n m ≡ none → Counts n m
counted n m = go (ltb bid_limit n) refl
  where
    go : (a : Bool) → ltb bid_limit n ≡ a → cond a (refuse 1 0) (pools_refusal m) ≡ none → Counts n m
    go true p e = not_refused e
    go false p e = record { bids = ltb-false bid_limit n p; pools = pools_counted m e }

-- the same with a number of results
pub record Results (n m results : ℕ) : Type 0 where
  pub counts : Counts n m
  pub count : results ≡ result_count n m

pub results_counted : (n m results : ℕ) → results_refusal n m results ≡ none → Results n m results
results_counted n m results e =
    let by_length : Refusal = length_refusal (eqb results (result_count n m)) in
    record {
      counts = counted n m (first_left (counts_refusal n m) by_length e);
      count = eqb-true _ _ (test_passed (eqb results (result_count n m)) 3 0 (first_right (counts_refusal n m) by_length e));
    }

-- which lengths the tables and the sheet have
pub record Lengths (n m bids capacities cells : ℕ) : Type 0 where
  pub bid_table : bids ≡ bid_numbers * n
  pub capacity_table : capacities ≡ m * m
  pub sheet : cells ≡ cell_count

-- both tables
pub tables_measured : (n m bids capacities : ℕ) → (eqb bids (bid_numbers * n) && eqb capacities (m * m)) ≡ true → (bids ≡ bid_numbers * n) × (capacities ≡ m * m)
tables_measured n m bids capacities e =
    (eqb-true _ _ (first_so (eqb bids (bid_numbers * n)) _ e), eqb-true _ _ (second_so (eqb bids (bid_numbers * n)) _ e))

pub measured : (n m bids capacities cells : ℕ) → length_refusal ((eqb bids (bid_numbers * n) && eqb capacities (m * m)) && eqb cells cell_count) ≡ none → Lengths n m bids capacities cells
measured n m bids capacities cells e =
    let table-test : Bool = eqb bids (bid_numbers * n) && eqb capacities (m * m) in
    let all = test_passed (table-test && eqb cells cell_count) 3 0 e in
    let tables = tables_measured n m bids capacities (first_so table-test _ all) in
    record { bid_table = tables.0; capacity_table = tables.1; sheet = eqb-true _ _ (second_so table-test _ all) }

-- of a book that is accepted for a sheet of some cells
pub record Sizes (B : Book) (cells : ℕ) : Type 0 where
  pub counts : Counts B.n B.m
  pub lengths : Lengths B.n B.m (length B.bids) (length B.capacities) cells

pub accepted_sizes : (B : Book) (cells : ℕ) → seal_refusal B cells ≡ none → Sizes B cells
unfolding seal_refusal
accepted_sizes B cells e =
    let after : Refusal = first (bids_refusal B) (capacities_refusal B) in
    let lengths : Refusal = length_refusal (tables_right B && eqb cells cell_count) in
    record {
      counts = counted B.n B.m (first_left (counts_refusal B.n B.m) (first lengths after) e);
      lengths = measured B.n B.m (length B.bids) (length B.capacities) cells (first_left lengths after (first_right (counts_refusal B.n B.m) (first lengths after) e));
    }
