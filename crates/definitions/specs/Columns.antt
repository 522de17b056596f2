-- The sheet by columns (document 02, request 6): the new number of each cell, the column plan, what sealing by columns writes, and when two sheets hold
-- the same. "Sealing, asking at a position and the plan writer (in C too) get a column form with the same refusals": asking and the writer are defined for
-- any plan (Plan), so their column forms are those definitions with the column plan; refusals are those of the row forms (Calls, Plan).
use Rattle.std.specs.Prelude.{ℕ, zero, suc, ◌+◌, ◌-◌, ◌*◌, ◌/◌, ◌%◌, ◌≡◌, cond, List, [], ◌∷◌, ◌++◌, map, ltb, length, replicate, ℤ}
use Rattle.definitions.specs.declared.Order.{Order}
use Rattle.definitions.specs.declared.Order.TheVariants.{Constant, Sum, Difference, Product, Less, Equal}
use Rattle.definitions.specs.Limits.{bid_numbers, cell_count}
use Rattle.definitions.specs.Arithmetic.{join_to, residue}
use Rattle.definitions.specs.Book.{Book, pool, whole_price, quantity, hundredths}
use Rattle.definitions.specs.Machine.{cell}
use Rattle.definitions.specs.Answers.{unless}
use Rattle.definitions.specs.Calls.{seal_refusal}
use Rattle.definitions.specs.Plan.{Plan}

-- "all pools, then all prices, hundredths, quantities": the column of the number at each place of a bid's row, where the quantity comes before the
-- hundredths
abbrev pub column_of : (place : ℕ) → ℕ
column_of zero = 0
column_of (suc zero) = 1
column_of (suc (suc zero)) = 3
column_of (suc (suc (suc place))) = 2

-- the new number of a cell: of a bid's cell in its column, where the bids stand by their numbers; "Capacities, results and scratch stay in place."
unfoldable pub column_cell : (n c : ℕ) → ℕ
column_cell n c = cond (ltb c (bid_numbers * n)) (column_of (c % bid_numbers) * n + c / bid_numbers) c

-- an order "with each cell number replaced by its new one"
abbrev pub renumbered : (new : ℕ → ℕ) → Order → Order
renumbered new (Constant d k) = Constant (new d) k
renumbered new (Sum d a b) = Sum (new d) (new a) (new b)
renumbered new (Difference d a b) = Difference (new d) (new a) (new b)
renumbered new (Product d a b) = Product (new d) (new a) (new b)
renumbered new (Less d a b) = Less (new d) (new a) (new b)
renumbered new (Equal d a b) = Equal (new d) (new a) (new b)

-- "The column plan is the row plan with each cell number replaced by its new one."
unfoldable pub column_plan : Plan → Plan
column_plan plan n m = map (renumbered (column_cell n)) (plan n m)

-- "the two sheets hold the same values under that renumbering": the second in the new cell what the first holds in the old one
abbrev pub SameUnder : (new : ℕ → ℕ) → (s t : List ℕ) → Type 0
SameUnder new s t = (c : ℕ) → cell t (new c) ≡ cell s c

-- ---- Sealing by columns

-- one number of every bid, as sealing writes numbers
abbrev pub column : (number : ℕ → ℤ) (n : ℕ) → List ℕ
column number n = join_to n (λ i. residue (number i) ∷ [])

-- the sealed sheet "all pools, then all prices, hundredths, quantities", then the capacities and 0 in every further cell as by rows
unfoldable pub column_sealed_sheet : Book → List ℕ
column_sealed_sheet B =
    column (pool B) B.n ++ column (whole_price B) B.n ++ column (hundredths B) B.n ++ column (quantity B) B.n
    ++ map residue B.capacities
    ++ replicate (cell_count - (length B.bids + length B.capacities)) 0

-- the sheet that sealing by columns leaves, "with the same refusals"
unfoldable pub seal_columns_sheet : Book → List ℕ → List ℕ
seal_columns_sheet B sheet = unless (seal_refusal B (length sheet)) (column_sealed_sheet B) sheet
