-- An order's bytes are bytes, 3 at least (`at_least_three`) and 8 at most (`at_most_eight`).
use Rattle.std.specs.Prelude.{ℕ, zero, suc, ◌+◌, ◌<◌, ◌≤◌, ◌≡◌, refl, List, [], ◌∷◌, ◌++◌, length}
use Rattle.std.proofs.Common.{arith, length-append}
use Rattle.definitions.specs.declared.Order.{Order}
use Rattle.definitions.specs.declared.Order.TheVariants.{Constant, Sum, Difference, Product, Less, Equal}
use Rattle.definitions.specs.Limits.{cell_count}
use Rattle.definitions.specs.Machine.{WellFormed, ThreeCells}
use Rattle.definitions.specs.Bytes as bytes
use Rattle.definitions.specs.Bytes.{most_groups, number_bytes, numbers_bytes, numbers_of, order_bytes, kind_count}
use Rattle.definitions.specs.Plan.{longest_order}
use Rattle.codec.specs.Groups as groups
use Rattle.codec.specs.Groups.{Bytes, groups_limit}

pub bytes_append : (xs ys : List ℕ) → Bytes xs → Bytes ys → Bytes (xs ++ ys)
bytes_append [] ys p q i = q i
bytes_append (x ∷ xs) ys p q zero = p 0
bytes_append (x ∷ xs) ys p q (suc i) = bytes_append xs ys (λ j. p (suc j)) q i

number_bytes_lem : (v : ℕ) → Bytes (number_bytes v)
unfolding number_bytes
number_bytes_lem v = groups.groups_bytes most_groups v

numbers_bytes_lem : (vs : List ℕ) → Bytes (numbers_bytes vs)
numbers_bytes_lem [] i = omega arith
numbers_bytes_lem (v ∷ vs) i = bytes_append (number_bytes v) (numbers_bytes vs) (number_bytes_lem v) (numbers_bytes_lem vs) i

pub order_bytes_lem : (o : Order) → Bytes (order_bytes o)
unfolding order_bytes
order_bytes_lem o = numbers_bytes_lem (numbers_of o)

-- the bytes of an order of kind 0
abbrev pub constant_bytes : (d k : ℕ) → List ℕ
constant_bytes d k = numbers_bytes (0 ∷ d ∷ k ∷ [])

-- the bytes of an order of a kind 1 to 5
abbrev pub cells_bytes : (kind d a b : ℕ) → List ℕ
cells_bytes kind d a b = numbers_bytes (kind ∷ d ∷ a ∷ b ∷ [])

pub length₃ : (x y z : List ℕ) → length (x ++ (y ++ (z ++ []))) ≡ length x + length y + length z
length₃ x y z = omega (arith, length-append x (y ++ (z ++ [])), length-append y (z ++ []), length-append z [])

pub length₄ : (w x y z : List ℕ) → length (w ++ (x ++ (y ++ (z ++ [])))) ≡ length w + length x + length y + length z
length₄ w x y z = omega (arith, length-append w (x ++ (y ++ (z ++ []))), length₃ x y z)

number_some : (v : ℕ) → 1 ≤ length (number_bytes v)
unfolding number_bytes
number_some v = groups.at_least_one most_groups v (omega arith)

numbers_some : (vs : List ℕ) → length vs ≤ length (numbers_bytes vs)
numbers_some [] = omega arith
numbers_some (v ∷ vs) = omega (arith, length-append (number_bytes v) (numbers_bytes vs), number_some v, numbers_some vs)

three_numbers : (o : Order) → 3 ≤ length (numbers_of o)
three_numbers (Constant d k) = omega arith
three_numbers (Sum d a b) = omega arith
three_numbers (Difference d a b) = omega arith
three_numbers (Product d a b) = omega arith
three_numbers (Less d a b) = omega arith
three_numbers (Equal d a b) = omega arith

pub at_least_three : (o : Order) → 3 ≤ length (order_bytes o)
unfolding order_bytes
at_least_three o = omega (arith, three_numbers o, numbers_some (numbers_of o))

kind_size : (v : ℕ) → v < kind_count → length (number_bytes v) ≤ 1
unfolding number_bytes groups_limit
kind_size v h = groups.at_most_within 0 most_groups v (omega arith)

cell_size : (v : ℕ) → v < cell_count → length (number_bytes v) ≤ 2
unfolding number_bytes groups_limit
cell_size v h = groups.at_most_within 1 most_groups v (omega arith)

number_size_lem : (v : ℕ) → length (number_bytes v) ≤ most_groups
unfolding number_bytes
number_size_lem v = groups.at_most most_groups v

cells_size : (kind d a b : ℕ) → kind < kind_count → ThreeCells d a b → length (cells_bytes kind d a b) ≤ longest_order
cells_size kind d a b h w = omega (arith, length₄ (number_bytes kind) (number_bytes d) (number_bytes a) (number_bytes b), kind_size kind h, cell_size d w.0, cell_size a w.1, cell_size b w.2)

-- "The longest order is 8 bytes."
pub at_most_eight : (o : Order) → WellFormed o → length (order_bytes o) ≤ longest_order
unfolding order_bytes
at_most_eight (Constant d k) w = omega (arith, length₃ (number_bytes 0) (number_bytes d) (number_bytes k), kind_size 0 (omega arith), cell_size d w.0, number_size_lem k)
at_most_eight (Sum d a b) w = cells_size 1 d a b (omega arith) w
at_most_eight (Difference d a b) w = cells_size 2 d a b (omega arith) w
at_most_eight (Product d a b) w = cells_size 3 d a b (omega arith) w
at_most_eight (Less d a b) w = cells_size 4 d a b (omega arith) w
at_most_eight (Equal d a b) w = cells_size 5 d a b (omega arith) w

-- one of 8 bytes: example 10
pub longest_order_lem : (o : Order) × WellFormed o × (length (order_bytes o) ≡ longest_order)
unfolding order_bytes number_bytes bytes.groups
longest_order_lem = (Constant 300 2147483646, (omega arith, omega arith), refl)
