-- The tests of feasibility as the code makes them: of numbers that are not refused they are together `feasible_numbers` (`tests_feasible`).
use Rattle.std.specs.Prelude.{ℕ, ◌+◌, ◌*◌, ◌≡◌, Bool, List, length, get_or, ℤ, pos, nat_abs, ◌&&◌, eqb}
use Rattle.std.proofs.Common.{ap, ap₂, ◌∙◌, eqb-true, arith}
use Rattle.definitions.specs.Limits.{bid_numbers, quantity_place}
use Rattle.definitions.specs.Arithmetic.{all_to, within}
use Rattle.definitions.specs.Answers.{none}
use Rattle.definitions.specs.Book.{Book}
use Rattle.definitions.specs.Calls.{counts_refusal, tables_right}
use Rattle.definitions.specs.Checks.{clearing_of, amounts_within, flows_within, balanced_at, balanced, feasible_numbers, sent_refusal}
use Rattle.definitions.specs.Clearing.{Clearing}
use Rattle.laws.specs.All.{all_to_ext, all_to_rows}
use Rattle.laws.specs.Refusal.{test_passed, first_left, first_right}
use Rattle.laws.specs.Sizes.{Counts, counted, tables_measured}
use Rattle.std.specs.Cmp.{first_so, second_so}
use Rattle.sums.specs.BidsOnly.{bids_only, sold_of, bought_of, inflow_of, outflow_of}
use Rattle.sums.specs.Pools.{TablesFit}

-- number k lies between 0 and the size of its limit, which stands at step × k + first
abbrev pub within_size : (numbers limits : List ℤ) (first step : ℕ) → ℕ → Bool
within_size numbers limits first step k = within (pos 0) (pos (nat_abs (get_or limits (step * k + first) (pos 0)))) (get_or numbers k (pos 0))

-- each number does
unfoldable pub within_sizes : (numbers limits : List ℤ) (first step : ℕ) → Bool
within_sizes numbers limits first step = all_to (length numbers) (within_size numbers limits first step)

-- pool p is in balance under the amounts and flows sent
abbrev pub pool_balanced : (m : ℕ) (bids amounts flows : List ℤ) → ℕ → Bool
pool_balanced m bids amounts flows = balanced_at (bids_only (length amounts) m bids) (clearing_of m amounts flows)

-- the three tests in turn: the amounts, the flows, the pools
abbrev pub tested : Book → (amounts flows : List ℤ) → Bool
tested B amounts flows =
    within_sizes amounts B.bids quantity_place bid_numbers
    && (within_sizes flows B.capacities 0 1 && all_to B.m (pool_balanced B.m B.bids amounts flows))

-- what is known of a book and of how many numbers are sent for it, if these are not refused
pub record SentSizes (B : Book) (amounts flows : ℕ) : Type 0 where
  pub counts : Counts B.n B.m
  pub bid_table : length B.bids ≡ bid_numbers * B.n
  pub capacity_table : length B.capacities ≡ B.m * B.m
  pub amount_count : amounts ≡ B.n
  pub flow_count : flows ≡ B.m * B.m

pub sent_sizes : (B : Book) (amounts flows : ℕ) → sent_refusal B amounts flows ≡ none → SentSizes B amounts flows
unfolding sent_refusal
sent_sizes B amounts flows e =
    let sent = eqb amounts B.n && eqb flows (B.m * B.m) in
    let right = test_passed (tables_right B && sent) 3 0 (first_right (counts_refusal B.n B.m) _ e) in
    let tables = tables_measured B.n B.m (length B.bids) (length B.capacities) (first_so (tables_right B) sent right) in
    let numbers = second_so (tables_right B) sent right in
    record {
      counts = counted B.n B.m (first_left (counts_refusal B.n B.m) _ e);
      bid_table = tables.0;
      capacity_table = tables.1;
      amount_count = eqb-true _ _ (first_so (eqb amounts B.n) _ numbers);
      flow_count = eqb-true _ _ (second_so (eqb amounts B.n) _ numbers);
    }

module _ (B : Book) (amounts flows : List ℤ) (sizes : SentSizes B (length amounts) (length flows)) where
  pub tables_fit : TablesFit B.m (length B.bids) (length amounts) (length flows)
  tables_fit = record {
    few_bids = omega (arith, sizes.amount_count, sizes.counts.bids);
    few_pools = sizes.counts.pools.most;
    bid_table = omega (arith, sizes.amount_count, sizes.bid_table);
    lines = sizes.flow_count;
  }

  amounts_tested : within_sizes amounts B.bids quantity_place bid_numbers ≡ amounts_within B amounts
  unfolding within_sizes amounts_within
  amounts_tested = ap (λ (k : ℕ). all_to k (within_size amounts B.bids quantity_place bid_numbers)) sizes.amount_count

  -- line k of the table as it stands
  abbrev line : ℕ → Bool
  line k = within (pos 0) (pos (nat_abs (get_or B.capacities k (pos 0)))) (get_or flows k (pos 0))

  flows_tested : within_sizes flows B.capacities 0 1 ≡ flows_within B flows
  unfolding within_sizes flows_within
  flows_tested =
      all_to_ext (length flows) (within_size flows B.capacities 0 1) line
      (λ k l. ap (λ (at : ℕ). within (pos 0) (pos (nat_abs (get_or B.capacities at (pos 0)))) (get_or flows k (pos 0))) (let e : 1 * k + 0 ≡ k = omega arith in e))
      ∙ ap (λ (k : ℕ). all_to k line) sizes.flow_count
      ∙ all_to_rows B.m B.m line

  pools_tested : all_to B.m (pool_balanced B.m B.bids amounts flows) ≡ balanced B (clearing_of B.m amounts flows)
  unfolding balanced_at balanced
  pools_tested =
      let c : Clearing = clearing_of B.m amounts flows in
      let count = sizes.amount_count in
      all_to_ext B.m _ _
      (λ p l.
      ap₂ eqb
      (ap₂ ◌+◌ (sold_of B (length amounts) count c.accepted p) (inflow_of B (length amounts) count c.flow p))
      (ap₂ ◌+◌ (bought_of B (length amounts) count c.accepted p) (outflow_of B (length amounts) count c.flow p)))

  pub tests_feasible : tested B amounts flows ≡ feasible_numbers B amounts flows
  unfolding feasible_numbers
  tests_feasible = ap₂ ◌&&◌ amounts_tested (ap₂ ◌&&◌ flows_tested pools_tested)
