-- Asking, the writer and the C forms on a plan of three orders, by computation.
use Rattle.std.proofs.Common.{ℕ, ◌≡◌, refl, List, [], ◌∷◌, replicate}
use Rattle.definitions.specs.declared.Order.{Order}
use Rattle.definitions.specs.declared.Order.TheVariants.{Constant, Sum}
use Rattle.definitions.specs.Answers.{refuse}
use Rattle.definitions.specs.Bytes.{groups, number_bytes, order_bytes, orders_bytes}
use Rattle.definitions.specs.Plan.{order, ended, refused, ask_refusal, asked, collected, total, fitting, write_refusal, orders_written, bytes_written, written_counts, write_counts, write_slice, lowest_first, total_refusal, total_slice, bytes_refusal, bytes_slice, counts_slice}

-- orders of 8, 4 and 3 bytes
three : (n m : ℕ) → List Order
three n m = Constant 300 2147483646 ∷ Sum 1 2 3 ∷ Constant 5 0 ∷ []

-- an order with the next position, the end at the total, 13 past it, 1 and 2 before that
answers : asked three 0 1 0 ∷ asked three 0 1 2 ∷ asked three 0 1 3 ∷ asked three 0 1 4 ∷ asked three 0 5 4 ∷ asked three 65 5 4 ∷ []
    ≡ order (Constant 300 2147483646) 1 ∷ order (Constant 5 0) 3 ∷ ended ∷ refused (refuse 13 0) ∷ refused (refuse 2 0) ∷ refused (refuse 1 0) ∷ []
unfolding three asked ask_refusal
answers = refl

all_asked : collected (asked three 0 1) 9 0 ≡ three 0 1
unfolding three collected asked ask_refusal
all_asked = refl

-- the writer: as many whole orders as fit, the bytes after them kept; 13 before 14, 14 at the end too
written : write_slice three 0 1 0 (1 ∷ 1 ∷ 1 ∷ 1 ∷ 1 ∷ 1 ∷ 1 ∷ 1 ∷ 1 ∷ 1 ∷ 1 ∷ []) ∷ write_slice three 0 1 1 (9 ∷ 9 ∷ 9 ∷ 9 ∷ 9 ∷ 9 ∷ 9 ∷ 9 ∷ []) ∷ write_slice three 0 1 1 (9 ∷ 9 ∷ []) ∷ []
    ≡ (0 ∷ 172 ∷ 2 ∷ 254 ∷ 255 ∷ 255 ∷ 255 ∷ 7 ∷ 1 ∷ 1 ∷ 1 ∷ []) ∷ (1 ∷ 1 ∷ 2 ∷ 3 ∷ 0 ∷ 5 ∷ 0 ∷ 9 ∷ []) ∷ (9 ∷ 9 ∷ []) ∷ []
unfolding three write_slice write_refusal ask_refusal bytes_written orders_written fitting orders_bytes order_bytes number_bytes groups
written = refl

counts : write_counts three 0 1 0 11 ∷ write_counts three 0 1 1 8 ∷ write_counts three 0 1 3 8 ∷ write_counts three 0 1 3 7 ∷ []
    ≡ record { bytes = 8; orders = 1; next = 1 } ∷ record { bytes = 7; orders = 2; next = 3 } ∷ record { bytes = 0; orders = 0; next = 3 } ∷ record { bytes = 0; orders = 0; next = 0 } ∷ []
unfolding three write_counts written_counts write_refusal ask_refusal bytes_written orders_written fitting orders_bytes order_bytes number_bytes groups
counts = refl

refusals : write_refusal three 0 1 4 7 ∷ write_refusal three 0 1 3 7 ∷ bytes_refusal three 0 1 4 7 23 ∷ bytes_refusal three 0 0 4 7 23 ∷ total_refusal 65 1 7 ∷ total_refusal 0 1 7 ∷ []
    ≡ refuse 13 0 ∷ refuse 14 0 ∷ refuse 3 0 ∷ refuse 2 0 ∷ refuse 1 0 ∷ refuse 3 0 ∷ []
unfolding three write_refusal ask_refusal bytes_refusal total_refusal
refusals = refl

-- the total, 0 for refused counts; the C form's 8 bytes, lowest first
totals : total three 0 1 ∷ total three 65 1 ∷ total three 0 5 ∷ [] ≡ 3 ∷ 0 ∷ 0 ∷ []
unfolding three total
totals = refl

forms : total_slice three 0 1 (replicate 8 9) ∷ total_slice three 0 1 (replicate 7 9) ∷ lowest_first 3 66051 ∷ []
    ≡ (3 ∷ 0 ∷ 0 ∷ 0 ∷ 0 ∷ 0 ∷ 0 ∷ 0 ∷ []) ∷ replicate 7 9 ∷ (3 ∷ 2 ∷ 1 ∷ []) ∷ []
unfolding three total_slice total_refusal lowest_first
forms = refl

-- "24 for the writer's bytes, orders and next position": from position 1 in 8 bytes, 7 bytes, 2 orders, position 3; a refusal keeps both slices
host_bytes : bytes_slice three 0 1 1 (replicate 8 9) 24 ∷ bytes_slice three 0 1 1 (replicate 8 9) 23 ∷ []
    ≡ (1 ∷ 1 ∷ 2 ∷ 3 ∷ 0 ∷ 5 ∷ 0 ∷ 9 ∷ []) ∷ replicate 8 9 ∷ []
unfolding three bytes_slice bytes_refusal bytes_written orders_written fitting orders_bytes order_bytes number_bytes groups
host_bytes = refl

host_counts : counts_slice three 0 1 1 8 (replicate 24 9) ∷ counts_slice three 0 1 1 7 (replicate 24 9) ∷ []
    ≡ (7 ∷ 0 ∷ 0 ∷ 0 ∷ 0 ∷ 0 ∷ 0 ∷ 0 ∷ 2 ∷ 0 ∷ 0 ∷ 0 ∷ 0 ∷ 0 ∷ 0 ∷ 0 ∷ 3 ∷ 0 ∷ 0 ∷ 0 ∷ 0 ∷ 0 ∷ 0 ∷ 0 ∷ []) ∷ replicate 24 9 ∷ []
unfolding three counts_slice bytes_refusal written_counts bytes_written orders_written fitting orders_bytes order_bytes number_bytes groups lowest_first
host_counts = refl
