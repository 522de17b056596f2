-- The plan as its callers meet it: asking at a position, the total, the writer and the two forms for the C host (document 01, 'The plan').
-- Which orders the plan lists is left open: `plan` is the list of orders for each n and m.
use Rattle.std.specs.Prelude.{ℕ, zero, suc, ◌+◌, ◌*◌, ◌-◌, ◌/◌, ◌%◌, cond, List, [], ◌∷◌, ◌++◌, ltb, leb, eqb, length, get_or, take, drop}
use Rattle.definitions.specs.declared.Order.{Order}
use Rattle.definitions.specs.declared.Order.TheVariants.{Constant}
use Rattle.definitions.specs.Answers.{Refusal, none, refuse, first, unless}
use Rattle.definitions.specs.Bytes.{order_bytes, orders_bytes}
use Rattle.definitions.specs.Calls.{counts_refusal, length_refusal}

-- "For each n and m there is one plan, a list of orders made from n and m only."
abbrev pub Plan : Type 0
Plan = (n m : ℕ) → List Order

-- "Asked for at a position, it gives either an order with the position after it, or that the plan has ended"; or a refusal
pub data Answer : Type 0 where
  order : Order → (next : ℕ) → Answer
  ended : Answer
  refused : Refusal → Answer

-- "A position in the plan moves on by one order; the first is 0 and the end is the total."
abbrev pub entry : List Order → ℕ → Answer
entry orders at = cond (ltb at (length orders)) (order (get_or orders at (Constant 0 0)) (at + 1)) ended

-- 13, "position past the total"
abbrev pub position_refusal : List Order → ℕ → Refusal
position_refusal orders at = cond (ltb (length orders) at) (refuse 13 0) none

-- "Each refusal is .. given exactly under its condition": the refusal if there is one, else the answer
abbrev pub answered : Refusal → Answer → Answer
answered none answer = answer
answered (refuse number place) answer = refused (refuse number place)

-- of asking: "Numbers 1, 2, 3 come first, lowest first, then 13"
unfoldable pub ask_refusal : Plan → (n m at : ℕ) → Refusal
ask_refusal plan n m at = first (counts_refusal n m) (position_refusal (plan n m) at)

-- "Asked for at a position, it gives either an order with the position after it, or that the plan has ended"; or it refuses
unfoldable pub asked : Plan → (n m at : ℕ) → Answer
asked plan n m at = answered (ask_refusal plan n m at) (entry (plan n m) at)

-- "the number of orders got by asking at 0 and then at each position handed back, until the plan has ended":
-- what one answer gives, and what the next position gives after it
abbrev pub collect : Answer → (ℕ → List Order) → List Order
collect (order o next) more = o ∷ more next
collect ended more = []
collect (refused r) more = []

-- the orders so got from a position on, k of them at most
unfoldable pub collected : (ask : ℕ → Answer) (k at : ℕ) → List Order
collected ask zero at = []
collected ask (suc k) at = collect (ask at) (λ next. collected ask k next)

-- ---- The total

-- "the total is known from n and m", and is "the length of this list"; 0 if the counts are refused
unfoldable pub total : Plan → (n m : ℕ) → ℕ
total plan n m = unless (counts_refusal n m) (length (plan n m)) 0

-- ---- The plan writer

-- "fills a lent byte slice with as many whole orders as fit": how many of some orders fit in a number of bytes
unfoldable pub fitting : List Order → (room : ℕ) → ℕ
fitting [] room = 0
fitting (o ∷ os) room = cond (leb (length (order_bytes o)) room) (suc (fitting os (room - length (order_bytes o)))) 0

-- "The longest order is 8 bytes."
abbrev pub longest_order : ℕ
longest_order = 8

-- 14, "fewer than 8 bytes lent to the writer"
abbrev pub room_refusal : ℕ → Refusal
room_refusal room = cond (ltb room longest_order) (refuse 14 0) none

-- of the writer: "then 13, 14 .. in this order"
unfoldable pub write_refusal : Plan → (n m at room : ℕ) → Refusal
write_refusal plan n m at room = first (ask_refusal plan n m at) (room_refusal room)

-- how many orders the writer writes from a position
unfoldable pub orders_written : Plan → (n m at room : ℕ) → ℕ
orders_written plan n m at room = fitting (drop at (plan n m)) room

-- and their bytes, "from a position .. as many whole orders as fit"
unfoldable pub bytes_written : Plan → (n m at room : ℕ) → List ℕ
bytes_written plan n m at room = orders_bytes (take (orders_written plan n m at room) (drop at (plan n m)))

-- "the counts of bytes and orders and the next position"
pub record Written : Type 0 where
  pub bytes : ℕ
  pub orders : ℕ
  pub next : ℕ

-- all three 0, after a refusal
abbrev pub nothing_written : Written
nothing_written = record { bytes = 0; orders = 0; next = 0 }

-- the three after an accepted call: the next position is the orders written further on
unfoldable pub written_counts : Plan → (n m at room : ℕ) → Written
written_counts plan n m at room =
    record {
      bytes = length (bytes_written plan n m at room);
      orders = orders_written plan n m at room;
      next = at + orders_written plan n m at room;
    }

-- "counts .. and next position are then 0"
unfoldable pub write_counts : Plan → (n m at room : ℕ) → Written
write_counts plan n m at room = unless (write_refusal plan n m at room) (written_counts plan n m at room) nothing_written

-- the slice after the call: the bytes written, and "keeps the bytes after them"
abbrev pub over : (bytes out : List ℕ) → List ℕ
over bytes out = bytes ++ drop (length bytes) out

-- "all lent slices are unchanged" after a refusal
unfoldable pub write_slice : Plan → (n m at : ℕ) → List ℕ → List ℕ
write_slice plan n m at out =
    unless (write_refusal plan n m at (length out)) (over (bytes_written plan n m at (length out)) out) out

-- ---- The two forms for the C host

-- "the numbers given go to a further lent slice, 8 bytes each"
abbrev pub number_size : ℕ
number_size = 8

-- "24 for the writer's bytes, orders and next position"
abbrev pub counts_size : ℕ
counts_size = 3 * number_size

-- "lowest byte first": k bytes of v
unfoldable pub lowest_first : (k v : ℕ) → List ℕ
lowest_first zero v = []
lowest_first (suc k) v = v % 256 ∷ lowest_first k (v / 256)

-- "8 bytes for the total", and 3 for a slice of another length
unfoldable pub total_refusal : (n m out : ℕ) → Refusal
total_refusal n m out = first (counts_refusal n m) (length_refusal (eqb out number_size))

-- the slice that takes the total, after the call
unfoldable pub total_slice : Plan → (n m : ℕ) → List ℕ → List ℕ
total_slice plan n m out = unless (total_refusal n m (length out)) (lowest_first number_size (length (plan n m))) out

-- of the plan's bytes, 1, 2, 3, 13, 14 in this order
unfoldable pub bytes_refusal : Plan → (n m at room out : ℕ) → Refusal
bytes_refusal plan n m at room out =
    first (counts_refusal n m)
    (first (length_refusal (eqb out counts_size))
    (first (position_refusal (plan n m) at) (room_refusal room)))

-- the three numbers
abbrev pub count_bytes : Written → List ℕ
count_bytes w = lowest_first number_size w.bytes ++ (lowest_first number_size w.orders ++ lowest_first number_size w.next)

-- the slice that takes the plan's bytes, after the call
unfoldable pub bytes_slice : Plan → (n m at : ℕ) → (bytes : List ℕ) (out : ℕ) → List ℕ
bytes_slice plan n m at bytes out =
    unless (bytes_refusal plan n m at (length bytes) out) (over (bytes_written plan n m at (length bytes)) bytes) bytes

-- and the slice that takes the three numbers
unfoldable pub counts_slice : Plan → (n m at room : ℕ) → List ℕ → List ℕ
counts_slice plan n m at room out =
    unless (bytes_refusal plan n m at room (length out)) (count_bytes (written_counts plan n m at room)) out
