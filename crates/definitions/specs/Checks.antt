-- Checking a settlement from elsewhere (document 02, request 2): the test of a feasible clearing, the call, and what its yes says.
-- "A neighbouring exchange sends us accepted amounts and flows worked out by its own solver."
use Rattle.std.specs.Prelude.{ℕ, ◌+◌, ◌*◌, ◌<◌, ◌≡◌, Bool, true, ◌&&◌, List, eqb, length, get_or, ℤ, pos, nat_abs, ◌≤ℤ◌}
use Rattle.definitions.specs.Limits.{cell_count}
use Rattle.definitions.specs.Arithmetic.{all_to, within}
use Rattle.definitions.specs.Book.{Book, size, capacity}
use Rattle.definitions.specs.Clearing.{Clearing, Feasible, sold, bought, inflow, outflow, welfare}
use Rattle.definitions.specs.Answers.{Refusal, none, is_none, first}
use Rattle.definitions.specs.Calls.{counts_refusal, length_refusal, tables_right, seal_refusal}

-- the amount sent for a bid, and the flow sent for a line: m × m of them by rows
abbrev pub amount_sent : List ℤ → ℕ → ℤ
amount_sent amounts i = get_or amounts i (pos 0)

abbrev pub flow_sent : (m : ℕ) → List ℤ → (a b : ℕ) → ℤ
flow_sent m flows a b = get_or flows (a * m + b) (pos 0)

-- ---- A feasible clearing, as a test of numbers

-- "The accepted amount of a bid lies between 0 and the size of its quantity."
unfoldable pub amounts_within : Book → (amounts : List ℤ) → Bool
amounts_within B amounts = all_to B.n (λ i. within (pos 0) (pos (size B i)) (amount_sent amounts i))

-- "A flow lies between 0 and its capacity."
unfoldable pub flows_within : Book → (flows : List ℤ) → Bool
flows_within B flows = all_to B.m (λ a. all_to B.m (λ b. within (pos 0) (pos (capacity B a b)) (flow_sent B.m flows a b)))

-- the sizes of the numbers as a clearing: the numbers themselves where none is below 0
abbrev pub clearing_of : (m : ℕ) (amounts flows : List ℤ) → Clearing
clearing_of m amounts flows = record {
  accepted = λ i. nat_abs (amount_sent amounts i);
  flow = λ a b. nat_abs (flow_sent m flows a b);
}

-- "accepted sales plus inflow equal accepted purchases plus outflow", in pool p
unfoldable pub balanced_at : Book → Clearing → ℕ → Bool
balanced_at B c p = eqb (sold B c.accepted p + inflow B c.flow p) (bought B c.accepted p + outflow B c.flow p)

-- "In each pool"
unfoldable pub balanced : Book → Clearing → Bool
balanced B c = all_to B.m (balanced_at B c)

-- "That is a feasible clearing."
unfoldable pub feasible_numbers : Book → (amounts flows : List ℤ) → Bool
feasible_numbers B amounts flows =
    amounts_within B amounts && (flows_within B flows && balanced B (clearing_of B.m amounts flows))

-- ---- The call

-- of a book and the lengths of the two slices sent: 1, 2, 3
unfoldable pub sent_refusal : Book → (amounts flows : ℕ) → Refusal
sent_refusal B amounts flows =
    first (counts_refusal B.n B.m)
    (length_refusal (tables_right B && (eqb amounts B.n && eqb flows (B.m * B.m))))

-- the test of numbers of any length: no, where counts or lengths are not as stated
unfoldable pub sent_feasible : Book → (amounts flows : List ℤ) → Bool
sent_feasible B amounts flows = is_none (sent_refusal B (length amounts) (length flows)) && feasible_numbers B amounts flows

-- "The book and all lengths are tested as at sealing."
unfoldable pub check_refusal : Book → (amounts flows : ℕ) → Refusal
check_refusal B amounts flows = first (sent_refusal B amounts flows) (seal_refusal B cell_count)

-- ---- What yes says

-- the numbers sent are those of a clearing
pub record SentAs (B : Book) (amounts flows : List ℤ) (c : Clearing) : Type 0 where
  pub amounts_are : (i : ℕ) → i < B.n → amount_sent amounts i ≡ pos (c.accepted i)
  pub flows_are : (a b : ℕ) → a < B.m → b < B.m → flow_sent B.m flows a b ≡ pos (c.flow a b)

-- "the clearing is feasible and no feasible clearing has greater welfare": "the merit order among equals plays no part", and "Flows both
-- ways on a pair are allowed here"
pub record Optimal (B : Book) (c : Clearing) : Type 0 where
  pub feasible : Feasible B c
  pub none_greater : (d : Clearing) → Feasible B d → welfare B d.accepted ≤ℤ welfare B c.accepted

-- the numbers sent pass: nothing is refused, and they are those of such a clearing
pub record Passes (B : Book) (amounts flows : List ℤ) : Type 0 where
  pub no_refusal : check_refusal B (length amounts) (length flows) ≡ none
  pub clearing : Clearing
  pub sent : SentAs B amounts flows clearing
  pub optimal : Optimal B clearing

-- "Yes is said exactly when"
pub record Exactly (yes : Bool) (P : Type 0) : Type 0 where
  pub said : yes ≡ true → P
  pub meant : P → yes ≡ true
