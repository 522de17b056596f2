-- What each answer of reading says, in document 01's numbers: what was read with the offset after it, or a refusal with its place.
use Rattle.std.specs.Prelude.{ℕ, ◌≡◌, refl, cond, ltb, Ok, Err, Some, None}
use Rattle.definitions.specs.declared.Order.{Order}
use Rattle.std.specs.declared.result.Result.{Result}
use Rattle.std.specs.declared.option.Option.{Option}
use Rattle.definitions.specs.declared.Reason.{Reason}
use Rattle.definitions.specs.Answers.{Refusal, refuse, stated}
use Rattle.definitions.specs.Bytes.{Number, short, bad, number, Read, fault, found}
use Rattle.codec.specs.declared.Fault.{Fault}
use Rattle.codec.specs.declared.Fault.TheVariants as groups

-- what was read and the offset after it, or a refusal
pub data ReadResult (A : Type 0) : Type 0 where
  given : A → (next : ℕ) → ReadResult A
  refused : Refusal → ReadResult A

-- what reading an order gives, "Place: offset of the order's first byte."
abbrev pub answer_at : {A : Type 0} → (place : ℕ) → Read A → ReadResult A
answer_at place (fault k) = refused (refuse k place)
answer_at place (found a next) = given a next

-- what a reading call answers: what was read with the offset after it, else its reason's refusal
abbrev pub result_answer : {A : Type 0} → Result (A × ℕ) Reason → ReadResult A
result_answer (Ok read) = given read.0 read.1
result_answer (Err reason) = refused (stated reason)

-- the cases of what a number's groups give: its value and how many they are, or why there is no number
abbrev pub groups_answer : Result (ℕ × ℕ) Fault → Number
groups_answer (Ok read) = number read.0 read.1
groups_answer (Err groups.CutShort) = short
groups_answer (Err groups.Form) = bad

-- the order of a kind and the offset after it; 10 where no such order is of that kind
abbrev pub kind_answer : (next : ℕ) → Option Order → Read Order
kind_answer next (Some order) = found order next
kind_answer next None = fault 10

-- a number below a limit, else a refusal
abbrev pub limited_answer : (limit : ℕ) → Refusal → ReadResult ℕ → ReadResult ℕ
limited_answer limit over (given v next) = cond (ltb v limit) (given v next) (refused over)
limited_answer limit over (refused r) = refused r

-- ---- what an answer says of the definition

module _ {A : Type 0} (place : ℕ) (r : Read A) where
  pub answer_found : (a : A) (next : ℕ) → given a next ≡ answer_at place r → r ≡ found a next
  answer_found a next e = go r e
    where
      go : (r : Read A) → given a next ≡ answer_at place r → r ≡ found a next
      go (fault k) e = cc
      go (found b n) e = cc

  -- the fault that was found, and that the refusal states it with its place
  pub record FaultAt (x : Refusal) : Type 0 where
    pub number : ℕ
    pub was : r ≡ fault number
    pub says : x ≡ refuse number place

  pub answer_refused : (x : Refusal) → refused x ≡ answer_at place r → FaultAt x
  answer_refused x e = go r refl e
    where
      go : (q : Read A) → r ≡ q → refused x ≡ answer_at place q → FaultAt x
      go (fault k) p e = record { number = k; was = p; says = cc }
      go (found b n) p e = cc
