-- What a call says of its input: the documents' number and place for each reason to refuse it, and document 01's number for each kind of order.
use Rattle.std.specs.Prelude.{ℕ, zero, suc, Bool, true, false, Ok, Err}
use Rattle.std.specs.declared.result.Result.{Result}
use Rattle.definitions.specs.declared.Order.{Order}
use Rattle.definitions.specs.declared.Parts.{Parts}
use Rattle.definitions.specs.declared.Order.TheVariants.{Constant, Sum, Difference, Product, Less, Equal}
use Rattle.definitions.specs.declared.Reason.{Reason}
use Rattle.definitions.specs.declared.Reason.TheVariants.{BidCount, PoolCount, Length, Pool, Price, Quantity, Capacity, Diagonal, CutShort, Kind, Form, Operand, Position, Room, Cell, Holder}

-- "Each refusal is a number and a place"
pub data Refusal : Type 0 where
  none : Refusal
  refuse : (number place : ℕ) → Refusal

-- "the refusal number, 0 for none"
abbrev pub number_of : Refusal → ℕ
number_of none = 0
number_of (refuse number place) = number

-- its place, 0 for none
abbrev pub place_of : Refusal → ℕ
place_of none = 0
place_of (refuse number place) = place

-- "it gives no refusal"
abbrev pub is_none : Refusal → Bool
is_none none = true
is_none (refuse number place) = false

-- a refusal by its number, 0 for none
abbrev pub numbered : (number place : ℕ) → Refusal
numbered zero place = none
numbered (suc number) place = refuse (suc number) place

-- the first of two refusals
abbrev pub first : Refusal → Refusal → Refusal
first none next = next
first (refuse number place) next = refuse number place

-- what a slice holds after a call: `given` if the call refuses nothing, else what it held before
abbrev pub unless : {A : Type 0} → Refusal → (given before : A) → A
unless none given before = given
unless (refuse number place) given before = before

-- the refusal that each reason states
abbrev pub stated : Reason → Refusal
stated BidCount = refuse 1 0
stated PoolCount = refuse 2 0
stated Length = refuse 3 0
stated (Pool bid) = refuse 4 bid
stated (Price bid) = refuse 5 bid
stated (Quantity bid) = refuse 6 bid
stated (Capacity entry) = refuse 7 entry
stated (Diagonal entry) = refuse 8 entry
stated (CutShort offset) = refuse 9 offset
stated (Kind offset) = refuse 10 offset
stated (Form offset) = refuse 11 offset
stated (Operand offset) = refuse 12 offset
stated Position = refuse 13 0
stated Room = refuse 14 0
stated (Cell c) = refuse 15 c
stated Holder = refuse 16 0

-- the refusal of what a call answers: none with what it gives, else its reason's
abbrev pub refusal_of : {A : Type 0} → Result A Reason → Refusal
refusal_of (Ok given) = none
refusal_of (Err reason) = stated reason

-- what a call gives: on a refusal nothing, for which its counts are 0
abbrev pub given_or : {A : Type 0} → A → Result A Reason → A
given_or nothing (Ok given) = given
given_or nothing (Err reason) = nothing

-- "An order begins with its kind, 0 to 5"
abbrev pub kind_of : Order → ℕ
kind_of (Constant d k) = 0
kind_of (Sum d a b) = 1
kind_of (Difference d a b) = 2
kind_of (Product d a b) = 3
kind_of (Less d a b) = 4
kind_of (Equal d a b) = 5

-- an order by its numbers: its kind, its target, and its constant or its two cells, 0 where it has none
abbrev pub parts_of : Order → Parts
parts_of (Constant d k) = record { kind = kind_of (Constant d k); d = d; k = k; a = 0; b = 0 }
parts_of (Sum d a b) = record { kind = kind_of (Sum d a b); d = d; k = 0; a = a; b = b }
parts_of (Difference d a b) = record { kind = kind_of (Difference d a b); d = d; k = 0; a = a; b = b }
parts_of (Product d a b) = record { kind = kind_of (Product d a b); d = d; k = 0; a = a; b = b }
parts_of (Less d a b) = record { kind = kind_of (Less d a b); d = d; k = 0; a = a; b = b }
parts_of (Equal d a b) = record { kind = kind_of (Equal d a b); d = d; k = 0; a = a; b = b }
