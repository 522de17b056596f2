-- The machine: its orders, one step, the run of a list of orders (document 01, 'The machine').
use Rattle.std.specs.Prelude.{ℕ, ◌+◌, ◌-◌, ◌*◌, ◌%◌, ◌<◌, ◌≡◌, cond, List, [], ◌∷◌, eqb, length, get_or, set}
use Rattle.std.specs.Int.Signed.{lt_z}
use Rattle.definitions.specs.declared.Order.{Order}
use Rattle.definitions.specs.declared.Order.TheVariants.{Constant, Sum, Difference, Product, Less, Equal}
use Rattle.definitions.specs.Limits.{cell_count, modulus}
use Rattle.definitions.specs.Arithmetic.{reading}

-- what cell c holds
abbrev pub cell : List ℕ → ℕ → ℕ
cell s c = get_or s c 0

-- "State: the sheet." 4,096 cells, each below p
pub record IsSheet (s : List ℕ) : Type 0 where
  pub cells : length s ≡ cell_count
  pub below : (c : ℕ) → cell s c < modulus

-- Order 1: "the sum, the difference, the product of cells a and b, modulo p"
abbrev pub plus : ℕ → ℕ → ℕ
plus x y = (x + y) % modulus

-- order 2
abbrev pub minus : ℕ → ℕ → ℕ
minus x y = (x + modulus - y) % modulus

-- order 3
abbrev pub times : ℕ → ℕ → ℕ
times x y = (x * y) % modulus

-- order 4: "1 if a, read with sign, is less than b read with sign, else 0"
abbrev pub less_than : ℕ → ℕ → ℕ
less_than x y = cond (lt_z (reading x) (reading y)) 1 0

-- order 5: "1 if a and b are equal, else 0"
abbrev pub same_as : ℕ → ℕ → ℕ
same_as x y = cond (eqb x y) 1 0

-- "Both cells are read before d is written .. Nothing else changes."
abbrev pub step_of : List ℕ → Order → List ℕ
step_of s (Constant d k) = set s d k
step_of s (Sum d a b) = set s d (plus (cell s a) (cell s b))
step_of s (Difference d a b) = set s d (minus (cell s a) (cell s b))
step_of s (Product d a b) = set s d (times (cell s a) (cell s b))
step_of s (Less d a b) = set s d (less_than (cell s a) (cell s b))
step_of s (Equal d a b) = set s d (same_as (cell s a) (cell s b))

-- the sheet after a list of orders
unfoldable pub run_of : List Order → List ℕ → List ℕ
run_of [] s = s
run_of (o ∷ os) s = run_of os (step_of s o)

-- the cells that orders 1 to 5 name
abbrev pub ThreeCells : (d a b : ℕ) → Type 0
ThreeCells d a b = (d < cell_count) × (a < cell_count) × (b < cell_count)

-- an order of the machine names cells of the sheet; its constant is 0 to p − 1
abbrev pub WellFormed : Order → Type 0
WellFormed (Constant d k) = (d < cell_count) × (k < modulus)
WellFormed (Sum d a b) = ThreeCells d a b
WellFormed (Difference d a b) = ThreeCells d a b
WellFormed (Product d a b) = ThreeCells d a b
WellFormed (Less d a b) = ThreeCells d a b
WellFormed (Equal d a b) = ThreeCells d a b

-- every order of a list is one of the machine's
abbrev pub AllWellFormed : List Order → Type 0
AllWellFormed [] = Unit {0}
AllWellFormed (o ∷ os) = WellFormed o × AllWellFormed os
