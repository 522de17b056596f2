-- A host's walk through a plan: one call after another, each from the position that the one before gave, until a call gives no orders.
use Rattle.std.specs.Prelude.{ℕ, ◌≤◌, Bool, true, false, cond, ◌&&◌, List, [], ◌∷◌, ◌++◌, ltb, eqb, length, take}
use Rattle.definitions.specs.Answers.{number_of}
use Rattle.definitions.specs.Plan.{Plan, Written, write_refusal, write_counts, write_slice, longest_order}

-- what a call gives its caller: the refusal's number, 0 for none, the bytes written, how many orders they are, and the next position
pub record Reply : Type 0 where
  pub refusal : ℕ
  pub bytes : List ℕ
  pub orders : ℕ
  pub next : ℕ

-- the host goes on after a call that is not refused and gives orders
abbrev pub goes_on : Reply → Bool
goes_on reply = eqb reply.refusal 0 && ltb 0 reply.orders

-- how far a walk has come: all bytes sent, the position, the number that the last call returned, and whether the walk stopped there
pub record Walk : Type 0 where
  pub sent : List ℕ
  pub position : ℕ
  pub refusal : ℕ
  pub stopped : Bool

-- the bytes of a call are sent before those of later calls
abbrev pub sent_before : List ℕ → Walk → Walk
sent_before bytes later = record { sent = bytes ++ later.sent; position = later.position; refusal = later.refusal; stopped = later.stopped }

-- a walk that stops stays at the position of its last call and sends nothing of it
abbrev pub stop_at : (at : ℕ) → Reply → Walk
stop_at at reply = record { sent = []; position = at; refusal = reply.refusal; stopped = true }

-- after a call at a position the walk goes on from the next position, or stops here
abbrev pub after_call : (at : ℕ) → Reply → (later : ℕ → Walk) → Walk
after_call at reply later = cond (goes_on reply) (sent_before reply.bytes (later reply.next)) (stop_at at reply)

-- the walk from a position, with what is lent to each call; it has not stopped if nothing is left to lend
unfoldable pub walk : {L : Type 0} → (call : (at : ℕ) → L → Reply) → (lent : List L) → (at : ℕ) → Walk
walk call [] at = record { sent = []; position = at; refusal = 0; stopped = false }
walk call (slices ∷ lent) at = after_call at (call at slices) (walk call lent)

-- a reply by the number returned, the counts given and the slice for the plan's bytes, of which as many are taken as were written
abbrev pub reply_of : (refusal : ℕ) (given : Written) (slice : List ℕ) → Reply
reply_of refusal given slice = record { refusal = refusal; bytes = take given.bytes slice; orders = given.orders; next = given.next }

-- a call of the writer
abbrev pub writer_reply : Plan → (n m : ℕ) → (at : ℕ) → (out : List ℕ) → Reply
writer_reply P n m at out = reply_of (number_of (write_refusal P n m at (length out))) (write_counts P n m at (length out)) (write_slice P n m at out)

-- each slice has 8 bytes at least
abbrev pub Roomy : List (List ℕ) → Type 0
Roomy [] = Unit {0}
Roomy (out ∷ outs) = (longest_order ≤ length out) × Roomy outs
