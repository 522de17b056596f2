-- What a sheet holds after the whole plan, and what clearing leaves and gives (document 01, 'The plan'; results and limit as document 02, request 5, has
-- them).
use Rattle.std.specs.Prelude.{ℕ, ◌+◌, ◌*◌, ◌^◌, ◌≤◌, ◌<◌, ◌≡◌, List, [], ◌∷◌, ◌++◌, length, ℤ, pos}
use Rattle.definitions.specs.Limits.{cell_count}
use Rattle.definitions.specs.Arithmetic.{join_to}
use Rattle.definitions.specs.Book.{Book}
use Rattle.definitions.specs.Sheet.{sealed_sheet, first_result, amount_cell, flow_cell, price_cell, hundredths_cell, presence_cell, first_scratch}
use Rattle.definitions.specs.Clearing.{Clearing, Best, Permitted, welfare}
use Rattle.definitions.specs.PoolPrice.{PoolPrice, missing, present, pool_price, price_residue, hundredths_residue, presence}
use Rattle.definitions.specs.Machine.{cell, run_of}
use Rattle.definitions.specs.Answers.{unless}
use Rattle.definitions.specs.Calls.{seal_refusal}
use Rattle.definitions.specs.Plan.{Plan}

-- the clearing that a sheet's result cells hold
abbrev pub result_of : Book → List ℕ → Clearing
result_of B s = record {
  accepted = λ i. cell s (amount_cell B.n B.m i);
  flow = λ a b. cell s (flow_cell B.n B.m a b);
}

-- "After the whole plan, run from a sealed sheet, input cells are as sealed, the result cells hold the best clearing's accepted amounts,
-- with flows and pool prices as said under The best clearing, and scratch is 0." The prices go by the sheet's own flows. The sheet that was sealed is the
-- one by rows or the one by columns.
pub record Outcome (B : Book) (sealed s : List ℕ) : Type 0 where
  pub cells : length s ≡ cell_count
  pub inputs : (c : ℕ) → c < first_result B.n B.m → cell s c ≡ cell sealed c
  pub best : Best B (result_of B s)
  pub permitted : Permitted B (result_of B s)
  pub prices : (p : ℕ) → p < B.m → cell s (price_cell B.n B.m p) ≡ price_residue (pool_price B (result_of B s) p)
  pub hundredths : (p : ℕ) → p < B.m → cell s (hundredths_cell B.n B.m p) ≡ hundredths_residue (pool_price B (result_of B s) p)
  pub presences : (p : ℕ) → p < B.m → cell s (presence_cell B.n B.m p) ≡ presence (pool_price B (result_of B s) p)
  pub scratch : (c : ℕ) → first_scratch B.n B.m ≤ c → cell s c ≡ 0

-- a pool's three results as they are opened, "(price, hundredths, presence; all 0 if missing)"
abbrev pub price_numbers : PoolPrice → List ℤ
price_numbers missing = pos 0 ∷ pos 0 ∷ pos 0 ∷ []
price_numbers (present w h) = w ∷ h ∷ pos 1 ∷ []

-- the results of a clearing as they are opened: "n accepted amounts, m × m flows by rows, then for each pool" its three
unfoldable pub clearing_results : Book → Clearing → List ℤ
clearing_results B c =
    join_to B.n (λ i. pos (c.accepted i) ∷ [])
    ++ (join_to B.m (λ a. join_to B.m (λ b. pos (c.flow a b) ∷ []))
    ++ join_to B.m (λ p. price_numbers (pool_price B c p)))

-- demand 3: "at most n × (100 × n + 40 × (m+1)^6) + 10,000"; "In the order limit 100 × n becomes 200 × n."
abbrev pub order_limit : (n m : ℕ) → ℕ
order_limit n m = n * (200 * n + 40 * (m + 1) ^ 6) + 10000

-- ---- Clearing: "it seals, runs the plan, and gives the count of orders and the welfare"

-- the run of the plan from the book's sealed sheet
unfoldable pub plan_run : Plan → Book → List ℕ
plan_run plan B = run_of (plan B.n B.m) (sealed_sheet B)

-- the sheet that clearing leaves: "the machine's run of it from the sealed sheet"
unfoldable pub clear_sheet : Plan → Book → List ℕ → List ℕ
clear_sheet plan B sheet = unless (seal_refusal B (length sheet)) (plan_run plan B) sheet

-- "counts, welfare and next position are then 0": the count of orders
unfoldable pub clear_count : Plan → Book → (cells : ℕ) → ℕ
clear_count plan B cells = unless (seal_refusal B cells) (length (plan B.n B.m)) 0

-- and the welfare
unfoldable pub clear_welfare : Plan → Book → (cells : ℕ) → ℤ
clear_welfare plan B cells = unless (seal_refusal B cells) (welfare B (result_of B (plan_run plan B)).accepted) (pos 0)
