-- What is known of a call of the writer that is not refused (`write_within`), and what each call leaves.
use Rattle.std.specs.Prelude.{ℕ, ◌≤◌, ◌≡◌, cond, ltb, List, length}
use Rattle.std.proofs.Common.{refl, ap, ◌∙◌, false, true≢false, ltb-false}
use Rattle.definitions.specs.declared.Reason.{Reason}
use Rattle.definitions.specs.Answers.{Refusal, none, refuse, first, unless, is_none, stated}
use Rattle.definitions.specs.Calls.{counts_refusal}
use Rattle.definitions.specs.Plan.{Plan, position_refusal, room_refusal, ask_refusal, write_refusal, over, bytes_written, nothing_written, written_counts, write_counts, write_slice, longest_order}
use Rattle.laws.specs.Search.{first_to_refuse, after_none}
use Rattle.laws.specs.Refusal.{test_failed, first_left, first_right, unless_refused}

-- 13 by the total
abbrev pub past_refusal : (total at : ℕ) → Refusal
past_refusal total at = cond (ltb total at) (refuse 13 0) none

-- what is known of a call that is not refused
pub record Judged (P : Plan) (n m at bytes : ℕ) : Type 0 where
  pub counts : counts_refusal n m ≡ none
  pub position : at ≤ length (P n m)
  pub room : longest_order ≤ bytes

module _ (P : Plan) (n m at room : ℕ) where
  pub write_within : write_refusal P n m at room ≡ none → Judged P n m at room
  unfolding write_refusal ask_refusal
  write_within e =
      let asked = first_left (ask_refusal P n m at) (room_refusal room) e in
      record {
        counts = first_left (counts_refusal n m) (position_refusal (P n m) at) asked;
        position = ltb-false (length (P n m)) at (test_failed _ 13 0 (first_right (counts_refusal n m) (position_refusal (P n m) at) asked));
        room = ltb-false room longest_order (test_failed _ 14 0 (first_right (ask_refusal P n m at) (room_refusal room) e));
      }

  -- the counts are refused
  pub counts_stated : (r : Reason) → stated r ≡ counts_refusal n m → stated r ≡ write_refusal P n m at room
  unfolding write_refusal ask_refusal
  counts_stated r e = first_to_refuse r (first_to_refuse r e (position_refusal (P n m) at)) (room_refusal room)

  pub by_counts : is_none (counts_refusal n m) ≡ false → write_refusal P n m at room ≡ counts_refusal n m
  unfolding write_refusal ask_refusal
  by_counts = go (counts_refusal n m)
    where
      go : (r : Refusal) → is_none r ≡ false → first (first r (position_refusal (P n m) at)) (room_refusal room) ≡ r
      go none e = absurd (true≢false e)
      go (refuse k x) e = refl

  -- or they passed, and the rest is judged by the total
  pub by_room : none ≡ counts_refusal n m → (r : Refusal) (total : ℕ) → total ≡ length (P n m) → r ≡ first (past_refusal total at) (room_refusal room)
      → r ≡ write_refusal P n m at room
  unfolding write_refusal ask_refusal
  by_room e r total t h = rw (← t) (h ∙ ap (λ (x : Refusal). first x (room_refusal room)) (after_none (past_refusal total at) e))

  pub counts_accepted : write_refusal P n m at room ≡ none → write_counts P n m at room ≡ written_counts P n m at room
  unfolding write_counts
  counts_accepted e = ap (λ (r : Refusal). unless r (written_counts P n m at room) nothing_written) e

  pub counts_refused : is_none (write_refusal P n m at room) ≡ false → write_counts P n m at room ≡ nothing_written
  unfolding write_counts
  counts_refused e = unless_refused (write_refusal P n m at room) (written_counts P n m at room) nothing_written e

module _ (P : Plan) (n m at : ℕ) (out : List ℕ) where
  pub slice_accepted : write_refusal P n m at (length out) ≡ none → write_slice P n m at out ≡ over (bytes_written P n m at (length out)) out
  unfolding write_slice
  slice_accepted e = ap (λ (r : Refusal). unless r (over (bytes_written P n m at (length out)) out) out) e

  pub slice_refused : is_none (write_refusal P n m at (length out)) ≡ false → write_slice P n m at out ≡ out
  unfolding write_slice
  slice_refused e = unless_refused (write_refusal P n m at (length out)) (over (bytes_written P n m at (length out)) out) out e
