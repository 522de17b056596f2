-- Orders as bytes: numbers in groups of seven bits, an order, a list of orders, and reading them back (document 01, 'The plan').
use Rattle.std.specs.Prelude.{ℕ, zero, suc, ◌+◌, ◌*◌, ◌/◌, ◌%◌, Bool, true, false, cond, ◌||◌, List, [], ◌∷◌, ◌++◌, ltb, eqb, length, drop}
use Rattle.definitions.specs.declared.Order.{Order}
use Rattle.definitions.specs.declared.Order.TheVariants.{Constant, Sum, Difference, Product, Less, Equal}
use Rattle.definitions.specs.Limits.{cell_count, modulus}
use Rattle.definitions.specs.Answers.{Refusal, none, refuse, kind_of}

-- ---- Writing

-- how many numbers a group of seven bits has: "with 128 added on all but the last"
abbrev pub group_size : ℕ
group_size = 128

-- "Each number .. is cut in groups of seven bits, lowest first, one to a byte, with 128 added on all but the last":
-- the bytes of v, a number of at most g groups
unfoldable pub groups : (g v : ℕ) → List ℕ
groups zero v = []
groups (suc g) v = cond (ltb v group_size) (v ∷ []) ((v % group_size + group_size) ∷ groups g (v / group_size))

-- a number below 2^32 has at most five groups
abbrev pub most_groups : ℕ
most_groups = 5

-- "below 2^32"
abbrev pub number_limit : ℕ
number_limit = 4294967296

-- a number's bytes, "the shortest form only"; those of a number of 2^32 or more are refused when read, by 11
unfoldable pub number_bytes : ℕ → List ℕ
number_bytes v = groups most_groups v

-- the bytes of some numbers, one after another
abbrev pub numbers_bytes : List ℕ → List ℕ
numbers_bytes [] = []
numbers_bytes (v ∷ vs) = number_bytes v ++ numbers_bytes vs

-- "d, then k or a, b"
abbrev pub operands_of : Order → List ℕ
operands_of (Constant d k) = d ∷ k ∷ []
operands_of (Sum d a b) = d ∷ a ∷ b ∷ []
operands_of (Difference d a b) = d ∷ a ∷ b ∷ []
operands_of (Product d a b) = d ∷ a ∷ b ∷ []
operands_of (Less d a b) = d ∷ a ∷ b ∷ []
operands_of (Equal d a b) = d ∷ a ∷ b ∷ []

-- "An order begins with its kind": all its numbers, in the order of their bytes
abbrev pub numbers_of : Order → List ℕ
numbers_of o = kind_of o ∷ operands_of o

-- "In bytes an order is its kind, d, then k or a, b."
unfoldable pub order_bytes : Order → List ℕ
order_bytes o = numbers_bytes (numbers_of o)

-- "The plan's bytes are those of its orders, one after another."
unfoldable pub orders_bytes : List Order → List ℕ
orders_bytes [] = []
orders_bytes (o ∷ os) = order_bytes o ++ orders_bytes os

-- ---- Reading

-- what the first bytes of a list are: the bytes end before a last group; no number in its shortest form; a value and how many bytes it has
pub data Number : Type 0 where
  short : Number
  bad : Number
  number : (value bytes : ℕ) → Number

-- "the shortest form only": a last group is 0 only if it is the first group too
abbrev pub last_group : Bool → ℕ → Number
last_group first x = cond (first || ltb 0 x) (number x 1) bad

-- a group x before the others
abbrev pub more_groups : ℕ → Number → Number
more_groups x short = short
more_groups x bad = bad
more_groups x (number v n) = number (x % group_size + group_size * v) (n + 1)

-- a number of at most g groups at the head of some bytes
unfoldable pub read_groups : (g : ℕ) (first : Bool) → List ℕ → Number
read_groups zero first xs = bad
read_groups (suc g) first [] = short
read_groups (suc g) first (x ∷ xs) = cond (ltb x group_size) (last_group first x) (more_groups x (read_groups g false xs))

-- reading at an offset: a refusal's number, or what was read and the offset after it
pub data Read (A : Type 0) : Type 0 where
  fault : ℕ → Read A
  found : A → (next : ℕ) → Read A

-- 9, "the bytes end inside an order, before a number's last group and with fewer than five bytes of that number given";
-- 11, "five bytes without a last group, 2^32 or more, or not shortest"
abbrev pub placed : (at : ℕ) → Number → Read ℕ
placed at short = fault 9
placed at bad = fault 11
placed at (number v n) = cond (ltb v number_limit) (found v (at + n)) (fault 11)

-- the number at an offset
unfoldable pub number_at : List ℕ → (at : ℕ) → Read ℕ
number_at s at = placed at (read_groups most_groups true (drop at s))

-- a number below a limit, else a refusal: 10 for the kind, 12 for a cell or a constant
abbrev pub below : (limit refusal : ℕ) → Read ℕ → Read ℕ
below limit refusal (fault k) = fault k
below limit refusal (found v next) = cond (ltb v limit) (found v next) (fault refusal)

-- "its kind, 0 to 5"
abbrev pub kind_count : ℕ
kind_count = 6

-- 10, "kind above 5"
unfoldable pub kind_at : List ℕ → (at : ℕ) → Read ℕ
kind_at s at = below kind_count 10 (number_at s at)

-- 12, "a cell of 4,096 or more"
unfoldable pub cell_at : List ℕ → (at : ℕ) → Read ℕ
cell_at s at = below cell_count 12 (number_at s at)

-- 12, "or a constant of p or more"
unfoldable pub constant_at : List ℕ → (at : ℕ) → Read ℕ
constant_at s at = below modulus 12 (number_at s at)

-- one number, and then what follows it
abbrev pub and_then : {A : Type 0} → Read ℕ → (ℕ → ℕ → Read A) → Read A
and_then (fault k) f = fault k
and_then (found v next) f = f v next

-- "d, then .. a, b": the orders that read two cells
abbrev pub cells_orders : (d a b : ℕ) → List Order
cells_orders d a b = Sum d a b ∷ Difference d a b ∷ Product d a b ∷ Less d a b ∷ Equal d a b ∷ []

-- the order of a kind among some orders, and the offset after it; 10 where none of them is of that kind
abbrev pub of_kind : (kind next : ℕ) → List Order → Read Order
of_kind kind next [] = fault 10
of_kind kind next (o ∷ os) = cond (eqb (kind_of o) kind) (found o next) (of_kind kind next os)

-- what follows the kind, the target and the first cell: the second cell
unfoldable pub last_at : List ℕ → (kind d a at : ℕ) → Read Order
last_at s kind d a at = and_then (cell_at s at) (λ b next. of_kind kind next (cells_orders d a b))

-- the kind of a constant, whatever its target and its number
abbrev pub constant_kind : ℕ
constant_kind = kind_of (Constant 0 0)

-- what follows the kind and the target: k for a constant, else a, b
unfoldable pub rest_at : List ℕ → (kind d at : ℕ) → Read Order
rest_at s kind d at =
    cond (eqb kind constant_kind)
    (and_then (constant_at s at) (λ k next. found (Constant d k) next))
    (and_then (cell_at s at) (λ a next. last_at s kind d a next))

-- what follows the kind: "then a target cell d"
unfoldable pub target_at : List ℕ → (kind at : ℕ) → Read Order
target_at s kind at = and_then (cell_at s at) (λ d next. rest_at s kind d next)

-- the order at an offset, "number by number: 9, 11, then 10 or 12"
unfoldable pub order_at : List ℕ → (at : ℕ) → Read Order
order_at s at = and_then (kind_at s at) (λ kind next. target_at s kind next)

-- ---- All orders of some bytes

-- the orders of some bytes up to their end or the first order refused, and that refusal; "Place: offset of the order's first byte."
pub record Parsed : Type 0 where
  pub orders : List Order
  pub refusal : Refusal

-- no order more: the bytes have ended, or the next order is refused
abbrev pub no_orders : Refusal → Parsed
no_orders r = record { orders = []; refusal = r }

-- an order before the others
abbrev pub one_more : Order → Parsed → Parsed
one_more o rest = record { orders = o ∷ rest.orders; refusal = rest.refusal }

-- the order read at an offset, or its refusal there, and what follows it
abbrev pub continue : (at : ℕ) → Read Order → (ℕ → Parsed) → Parsed
continue at (fault k) more = no_orders (refuse k at)
continue at (found o next) more = one_more o (more next)

-- from an offset on, k orders at most
unfoldable pub parse_from : List ℕ → (k at : ℕ) → Parsed
parse_from bytes zero at = no_orders none
parse_from bytes (suc k) at = cond (ltb at (length bytes)) (continue at (order_at bytes at) (λ next. parse_from bytes k next)) (no_orders none)

-- all of them: each order has a byte at least
unfoldable pub parse : List ℕ → Parsed
parse bytes = parse_from bytes (length bytes) 0
