-- What the host reads from 24 bytes, and its walk through a plan of three orders, by computation.
use Rattle.std.proofs.Common.{ℕ, ◌≡◌, refl, true, false, [], ◌∷◌, ◌++◌, replicate}
use Rattle.definitions.specs.Bytes.{groups, number_bytes, order_bytes, orders_bytes}
use Rattle.definitions.specs.Plan.{fitting, orders_written, bytes_written, written_counts, lowest_first, bytes_refusal, bytes_slice, counts_slice}
use Rattle.walk.specs.Walk.{walk}
use Rattle.walk.proofs.WalkFacts.{three, first_bytes, other_bytes}
use Rattle.host.specs.Numbers.{held, counts_held}
use Rattle.host.specs.Walk.{Lent, host_reply}

-- three numbers of 8 bytes, lowest first
numbers : counts_held
    ((1 ∷ 2 ∷ 0 ∷ 0 ∷ 0 ∷ 0 ∷ 0 ∷ 0 ∷ [])
    ++ (3 ∷ 0 ∷ 1 ∷ 0 ∷ 0 ∷ 0 ∷ 0 ∷ 0 ∷ [])
    ++ (255 ∷ 0 ∷ 0 ∷ 0 ∷ 0 ∷ 0 ∷ 0 ∷ 1 ∷ []))
    ≡ record { bytes = 513; orders = 65539; next = 72057594037928191 }
unfolding held
numbers = refl

-- a slice for the bytes and one for the numbers
abbrev lent : (room numbers : ℕ) → Lent
lent room numbers = record { bytes = replicate room 9; out = replicate numbers 238 }

-- the walk stops after the last order; without a further call it has not stopped; a refusal stops it, and the bytes that the slices held are not taken for numbers
walks : walk (host_reply three 0 1) (lent 11 24 ∷ lent 8 24 ∷ lent 8 24 ∷ lent 8 24 ∷ []) 0
    ∷ walk (host_reply three 0 1) (lent 11 24 ∷ []) 0
    ∷ walk (host_reply three 0 1) (lent 11 24 ∷ lent 8 23 ∷ lent 8 24 ∷ []) 0
    ∷ walk (host_reply three 65 1) (lent 8 24 ∷ lent 8 24 ∷ []) 0
    ∷ []
    ≡ record { sent = first_bytes ++ other_bytes; position = 3; refusal = 0; stopped = true }
    ∷ record { sent = first_bytes; position = 1; refusal = 0; stopped = false }
    ∷ record { sent = first_bytes; position = 1; refusal = 3; stopped = true }
    ∷ record { sent = []; position = 0; refusal = 1; stopped = true }
    ∷ []
unfolding walk held counts_slice bytes_slice bytes_refusal written_counts bytes_written orders_written fitting lowest_first orders_bytes order_bytes number_bytes groups
walks = refl
