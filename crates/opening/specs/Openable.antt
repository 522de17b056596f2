-- What is known of counts, sheet and results that opening does not refuse, and how many results it gives (`opened_length`).
use Rattle.std.specs.Prelude.{ℕ, ◌+◌, ◌≤◌, ◌<◌, ◌≡◌, List, eqb, length}
use Rattle.std.proofs.Common.{arith, mul-le-mul_right, eqb-true}
use Rattle.definitions.specs.Limits.{bid_limit, pool_limit, cell_count, modulus}
use Rattle.definitions.specs.Answers.{Refusal, none, first}
use Rattle.definitions.specs.Sheet.{first_result, result_count}
use Rattle.definitions.specs.Machine.{cell}
use Rattle.definitions.specs.Calls.{results_refusal, length_refusal, cells_refusal, open_refusal, opened_results}
use Rattle.laws.specs.Refusal.{test_passed, first_left, first_right}
use Rattle.laws.specs.Sizes.{Results, results_counted}
use Rattle.judging.specs.Cells.{cells_below}
use Rattle.opening.specs.Readings.{readings_length}

-- the results of few bids and pools end on the sheet
pub results_end : (n m : ℕ) → n ≤ bid_limit → m ≤ pool_limit → first_result n m + result_count n m ≤ cell_count
results_end n m h k = omega (arith, mul-le-mul_right m k)

pub record Openable (n m : ℕ) (sheet : List ℕ) (results : ℕ) : Type 0 where
  pub judged : results_refusal n m results ≡ none
  pub sizes : Results n m results
  pub cells : length sheet ≡ cell_count
  pub below : (c : ℕ) → cell sheet c < modulus

module _ (n m : ℕ) (sheet : List ℕ) (results : ℕ) (opens : open_refusal n m sheet results ≡ none) where
  pub openable : Openable n m sheet results
  unfolding open_refusal
  openable =
      let by-results : Refusal = results_refusal n m results in
      let by_length : Refusal = length_refusal (eqb (length sheet) cell_count) in
      let by-cells : Refusal = cells_refusal sheet in
      let passed : by-results ≡ none = first_left by-results (first by_length by-cells) opens in
      let after : first by_length by-cells ≡ none = first_right by-results (first by_length by-cells) opens in
      record {
        judged = passed;
        sizes = results_counted n m results passed;
        cells = eqb-true _ _ (test_passed (eqb (length sheet) cell_count) 3 0 (first_left by_length by-cells after));
        below = cells_below sheet (first_right by_length by-cells after);
      }

  -- the results' cells are cells of the sheet
  pub results_fit : (from : ℕ) → from ≡ first_result n m → from + results ≤ length sheet
  results_fit from e =
      let counts = openable.sizes.counts in
      omega (arith, openable.cells, openable.sizes.count, results_end n m counts.bids counts.pools.most)

  pub opened_length : length (opened_results n m sheet) ≡ result_count n m
  unfolding opened_results
  opened_length =
      let counts = openable.sizes.counts in
      readings_length sheet (first_result n m) (result_count n m) (omega (arith, openable.cells, results_end n m counts.bids counts.pools.most))
