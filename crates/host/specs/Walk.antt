-- The C host's walk, as README's loop makes it: it calls `plan_bytes`, or `column_plan_bytes`, from position 0 on, reads the three numbers from the 24
-- bytes, and stops at the first call that gives no orders; and what it has done when it has come to the end.
use Rattle.std.specs.Prelude.{ℕ, ◌≤◌, ◌≡◌, length, List, [], ◌∷◌, map}
use Rattle.definitions.specs.Answers.{number_of}
use Rattle.definitions.specs.Bytes.{orders_bytes}
use Rattle.definitions.specs.Machine.{IsSheet}
use Rattle.definitions.specs.Plan.{Plan, total_slice, bytes_refusal, bytes_slice, counts_slice, longest_order, number_size, counts_size}
use Rattle.columns.specs.declared.Numbering.{Numbering}
use Rattle.columns.specs.Plans.{plan_by}
use Rattle.plan.specs.Plan.{plan}
use Rattle.walk.specs.Walk.{Reply, Walk, reply_of}
use Rattle.walk.specs.Sequence.{PlanRun}
use Rattle.host.specs.Numbers.{held, counts_held}

-- the two slices of a call: the one for the plan's bytes, and the one for the three numbers
pub record Lent : Type 0 where
  pub bytes : List ℕ
  pub out : List ℕ

-- 8 bytes at least, and 24
pub record RightLengths (lent : Lent) : Type 0 where
  pub room : longest_order ≤ length lent.bytes
  pub numbers : length lent.out ≡ counts_size

-- every call's slices have these lengths
abbrev pub AllRight : List Lent → Type 0
AllRight [] = Unit {0}
AllRight (lent ∷ more) = RightLengths lent × AllRight more

-- what a call for a plan's bytes gives the host: the number returned, the counts that the 24 bytes hold, and the slice of the plan's bytes
abbrev pub host_reply : Plan → (n m : ℕ) → (at : ℕ) → Lent → Reply
host_reply P n m at lent =
    reply_of (number_of (bytes_refusal P n m at (length lent.bytes) (length lent.out)))
    (counts_held (counts_slice P n m at (length lent.bytes) lent.out))
    (bytes_slice P n m at lent.bytes (length lent.out))

-- what a walk has done that has come to the end of the plan by rows or by columns
pub record WholeWalk (by : Numbering) (n m : ℕ) (w : Walk) : Type 0 where
  -- no call was refused
  pub accepted : w.refusal ≡ 0
  -- exactly this plan's bytes were sent
  pub sent : w.sent ≡ orders_bytes (plan_by by plan n m)
  -- the runner accepts them on every sheet and runs this plan
  pub runs : (sheet : List ℕ) → IsSheet sheet → PlanRun (plan_by by plan n m) sheet w.sent
  -- the position is the total, which the 8 bytes of `plan_total` hold for both plans
  pub total : (out : List ℕ) → length out ≡ number_size → w.position ≡ held (total_slice plan n m out)
  -- one more call gives nothing, and the slice for the plan's bytes holds what it held
  pub nothing_more : (lent : Lent) → RightLengths lent
      → host_reply (plan_by by plan) n m w.position lent ≡ record { refusal = 0; bytes = []; orders = 0; next = w.position }
  pub slice_kept : (lent : Lent) → RightLengths lent → bytes_slice (plan_by by plan) n m w.position lent.bytes (length lent.out) ≡ lent.bytes

-- the slices for the plan's bytes
abbrev pub byte_slices : List Lent → List (List ℕ)
byte_slices = map (λ (lent : Lent). lent.bytes)
