-- What each answer says: document 01's answer for it, and that a position handed back is one of the same plan.
use Rattle.std.specs.Prelude.{ℕ, ◌≡◌, Ok, Err}
use Rattle.std.specs.declared.result.Result.{Result}
use Rattle.definitions.specs.declared.Reason.{Reason}
use Rattle.definitions.specs.Answers.{stated}
use Rattle.definitions.specs.Plan.{Answer, order, ended, refused, nothing_written}
use Rattle.definitions.specs.Plan as given
use Rattle.orders.specs.declared.Asked.{Asked}
use Rattle.orders.specs.declared.Asked.TheVariants as case
use Rattle.orders.specs.declared.Written.{Written}

-- "either an order with the position after it, or that the plan has ended", or a refusal
abbrev pub answer_of : Result Asked Reason → Answer
answer_of (Ok (case.Order o next)) = order o next.at
answer_of (Ok case.Ended) = ended
answer_of (Err reason) = refused (stated reason)

-- the position after the order is in the plan for the same counts
abbrev pub SamePlan : (n m : ℕ) → Result Asked Reason → Type 0
SamePlan n m (Ok (case.Order o next)) = (next.n ≡ n) × (next.m ≡ m)
SamePlan n m (Ok case.Ended) = Unit {0}
SamePlan n m (Err reason) = Unit {0}

-- "the counts of bytes and orders and the next position"
abbrev pub written_of : Written → given.Written
written_of w = record { bytes = w.bytes; orders = w.orders; next = w.next }

-- all 0 after a refusal
abbrev pub counts_of : Result Written Reason → given.Written
counts_of (Ok w) = written_of w
counts_of (Err reason) = nothing_written
