-- A host's walk with the writer through a plan of three orders, by computation.
use Rattle.std.proofs.Common.{ℕ, ◌≡◌, refl, true, false, List, [], ◌∷◌, ◌++◌, replicate}
use Rattle.definitions.specs.declared.Order.{Order}
use Rattle.definitions.specs.declared.Order.TheVariants.{Constant, Sum}
use Rattle.definitions.specs.Bytes.{groups, number_bytes, order_bytes, orders_bytes}
use Rattle.definitions.specs.Plan.{ask_refusal, fitting, write_refusal, orders_written, bytes_written, written_counts, write_counts, write_slice}
use Rattle.definitions.specs.Columns.{column_cell, column_plan}
use Rattle.walk.specs.Walk.{Reply, walk, writer_reply}

-- orders of 8, 4 and 3 bytes
abbrev pub three : (n m : ℕ) → List Order
three n m = Constant 300 2147483646 ∷ Sum 1 2 3 ∷ Constant 5 0 ∷ []

-- the bytes of the first, and of the others
abbrev pub first_bytes : List ℕ
first_bytes = 0 ∷ 172 ∷ 2 ∷ 254 ∷ 255 ∷ 255 ∷ 255 ∷ 7 ∷ []

abbrev pub other_bytes : List ℕ
other_bytes = 1 ∷ 1 ∷ 2 ∷ 3 ∷ 0 ∷ 5 ∷ 0 ∷ []

-- a slice of some bytes
abbrev slice : ℕ → List ℕ
slice room = replicate room 9

-- a walk goes on while orders are given, be it one, and stops after that; without a further slice it has not stopped; from the end it stops at once
walks : walk (writer_reply three 0 1) (slice 11 ∷ slice 8 ∷ slice 8 ∷ slice 8 ∷ []) 0
    ∷ walk (writer_reply three 0 1) (slice 11 ∷ []) 0
    ∷ walk (writer_reply three 0 1) (slice 8 ∷ []) 3
    ∷ []
    ≡ record { sent = first_bytes ++ other_bytes; position = 3; refusal = 0; stopped = true }
    ∷ record { sent = first_bytes; position = 1; refusal = 0; stopped = false }
    ∷ record { sent = []; position = 3; refusal = 0; stopped = true }
    ∷ []
unfolding walk write_counts written_counts write_refusal ask_refusal write_slice bytes_written orders_written fitting orders_bytes order_bytes number_bytes groups
walks = refl

-- through the column plan of the three, for one bid, it goes as far and sends other bytes: cells 2 and 3 have changed places
walks_by_columns : walk (writer_reply (column_plan three) 1 1) (slice 11 ∷ slice 8 ∷ slice 8 ∷ []) 0
    ≡ record { sent = first_bytes ++ (1 ∷ 1 ∷ 3 ∷ 2 ∷ 0 ∷ 5 ∷ 0 ∷ []); position = 3; refusal = 0; stopped = true }
unfolding walk column_plan column_cell write_counts written_counts write_refusal ask_refusal write_slice bytes_written orders_written fitting orders_bytes order_bytes number_bytes groups
walks_by_columns = refl

-- it stops at a call that is refused, whatever the call's counts are
refused_call : Reply
refused_call = record { refusal = 3; bytes = 9 ∷ []; orders = 5; next = 7 }

refused_stops : walk (λ at (out : List ℕ). refused_call) (slice 8 ∷ slice 8 ∷ []) 2 ≡ record { sent = []; position = 2; refusal = 3; stopped = true }
unfolding walk refused_call
refused_stops = refl

-- so do the writer's refusals, of the counts or of a slice, and what came before is sent
refused_walks : walk (writer_reply three 65 1) (slice 8 ∷ slice 8 ∷ []) 0 ∷ walk (writer_reply three 0 1) (slice 11 ∷ slice 7 ∷ slice 8 ∷ []) 0 ∷ []
    ≡ record { sent = []; position = 0; refusal = 1; stopped = true }
    ∷ record { sent = first_bytes; position = 1; refusal = 14; stopped = true }
    ∷ []
unfolding walk write_counts written_counts write_refusal ask_refusal write_slice bytes_written orders_written fitting orders_bytes order_bytes number_bytes groups
refused_walks = refl
