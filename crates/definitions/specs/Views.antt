-- A holder's view of opened results (document 02, request 1, "Each farm reads its own page"): the call, and the terms of its two theorems.
-- "A table of n holder numbers, unsigned 32-bit, goes with a book": its entry i is the holder of bid i + 1.
use Rattle.std.specs.Prelude.{ℕ, ◌+◌, ◌<◌, ◌≡◌, Bool, false, cond, ◌&&◌, ◌||◌, List, [], ◌∷◌, eqb, length, get_or, ℤ, pos, ◌+ℤ◌}
use Rattle.definitions.specs.Limits.{pool_results}
use Rattle.definitions.specs.Answers.{Refusal, none, refuse, first, unless}
use Rattle.definitions.specs.Calls.{length_refusal, results_refusal, result_at, flow_place, pool_place}

-- whether a holder stands in a list; in the table it stands where it has a bid
unfoldable pub is_among : (holder : ℕ) (holders : List ℕ) → Bool
is_among holder [] = false
is_among holder (h ∷ holders) = eqb h holder || is_among holder holders

-- "A view for one holder .. shows the accepted amounts of that holder's bids, all flows and all pool prices with their presence, and 0 for
-- every other bid": table and amounts are gone through together, bid by bid; flows and prices, behind the amounts, are left as they are
unfoldable pub view_of : (table : List ℕ) (holder : ℕ) (results : List ℤ) → List ℤ
view_of [] holder results = results
view_of (h ∷ table) holder [] = []
view_of (h ∷ table) holder (amount ∷ results) = cond (eqb h holder) amount (pos 0) ∷ view_of table holder results

-- ---- The call

-- 16, "the holder has no bid in the table, place 0"
abbrev pub holder_refusal : (table : List ℕ) (holder : ℕ) → Refusal
holder_refusal table holder = cond (is_among holder table) none (refuse 16 0)

-- of n, m, the table, the holder, and the lengths of the results and of the slice for the view: "after 1, 2 and 3: 16"
unfoldable pub view_refusal : (n m : ℕ) (table : List ℕ) (holder results view : ℕ) → Refusal
view_refusal n m table holder results view =
    first (results_refusal n m results)
    (first (length_refusal (eqb (length table) n && eqb view results))
    (holder_refusal table holder))

-- "in a lent slice of their order and length": what the call leaves there
unfoldable pub view_slice : (n m : ℕ) (table : List ℕ) (holder : ℕ) (results out : List ℤ) → List ℤ
view_slice n m table holder results out =
    unless (view_refusal n m table holder (length results) (length out)) (view_of table holder results) out

-- ---- The terms of the theorems

-- two lists of results "agree on those shown numbers"
pub record Agree (n m : ℕ) (table : List ℕ) (holder : ℕ) (r s : List ℤ) : Type 0 where
  pub amounts : (i : ℕ) → i < n → get_or table i 0 ≡ holder → result_at r i ≡ result_at s i
  pub flows : (a b : ℕ) → a < m → b < m → result_at r (flow_place n m a b) ≡ result_at s (flow_place n m a b)
  -- all results of each pool
  pub prices : (p k : ℕ) → p < m → k < pool_results → result_at r (pool_place n m p + k) ≡ result_at s (pool_place n m p + k)

-- no holder stands twice in a list
unfoldable pub Distinct : List ℕ → Type 0
Distinct [] = Unit {0}
Distinct (h ∷ holders) = (is_among h holders ≡ false) × Distinct holders

-- a list of "the table's holders, one each"
pub record OneEach (table holders : List ℕ) : Type 0 where
  pub the_same : (holder : ℕ) → is_among holder holders ≡ is_among holder table
  pub distinct : Distinct holders

-- f of each, added up
unfoldable pub sum_over : List ℕ → (ℕ → ℤ) → ℤ
sum_over [] f = pos 0
sum_over (h ∷ holders) f = f h +ℤ sum_over holders f
