-- When a call is not refused (`total_passes`, `bytes_pass`), and what is then known of it and of what it leaves.
use Rattle.std.specs.Prelude.{ℕ, ◌≤◌, ◌≡◌, refl, List, eqb, length}
use Rattle.std.proofs.Common.{ap, ◌∙◌, eq-eqb, le-ltb}
use Rattle.definitions.specs.Answers.{Refusal, none, refuse, first, unless}
use Rattle.definitions.specs.Calls.{counts_refusal, length_refusal}
use Rattle.definitions.specs.Plan.{Plan, position_refusal, room_refusal, ask_refusal, write_refusal, over, bytes_written, written_counts, lowest_first, count_bytes, total_refusal, total_slice, bytes_refusal, bytes_slice, counts_slice, longest_order, number_size, counts_size}
use Rattle.laws.specs.Refusal.{not_refused, first_left}

-- ---- refusals in turn

first_grouped : (a b c : Refusal) → first (first a b) c ≡ first a (first b c)
first_grouped none b c = refl
first_grouped (refuse k x) b c = refl

-- b, which refuses nothing, stands after a or nowhere
passed_between : (a b c d : Refusal) → first a b ≡ none → first (first a c) d ≡ first a (first b (first c d))
passed_between none none c d e = refl
passed_between none (refuse k x) c d e = not_refused e
passed_between (refuse k x) b c d e = refl

-- ---- the total

pub total_passes : (n m out : ℕ) → counts_refusal n m ≡ none → out ≡ number_size → total_refusal n m out ≡ none
unfolding total_refusal
total_passes n m out counts stated = rw (counts, eq-eqb out number_size stated) refl

module _ (P : Plan) (n m : ℕ) (out : List ℕ) where
  pub total_counts : total_refusal n m (length out) ≡ none → counts_refusal n m ≡ none
  unfolding total_refusal
  total_counts e = first_left (counts_refusal n m) (length_refusal (eqb (length out) number_size)) e

  pub total_given : total_refusal n m (length out) ≡ none → total_slice P n m out ≡ lowest_first number_size (length (P n m))
  unfolding total_slice
  total_given e = ap (λ (r : Refusal). unless r (lowest_first number_size (length (P n m))) out) e

-- ---- the bytes

pub bytes_pass : (P : Plan) (n m at room out : ℕ) → counts_refusal n m ≡ none → out ≡ counts_size → at ≤ length (P n m) → longest_order ≤ room → bytes_refusal P n m at room out ≡ none
unfolding bytes_refusal
bytes_pass P n m at room out counts stated within roomy = rw (counts, eq-eqb out counts_size stated, le-ltb (length (P n m)) at within, le-ltb room longest_order roomy) refl

module _ (P : Plan) (n m at : ℕ) (bytes out : List ℕ) where
  pub bytes_writing : bytes_refusal P n m at (length bytes) (length out) ≡ none → write_refusal P n m at (length bytes) ≡ none
  unfolding bytes_refusal write_refusal ask_refusal
  bytes_writing e =
      let counts : Refusal = counts_refusal n m in
      let stated : Refusal = length_refusal (eqb (length out) counts_size) in
      let position : Refusal = position_refusal (P n m) at in
      let room : Refusal = room_refusal (length bytes) in
      passed_between counts stated position room
      (first_left (first counts stated) (first position room) (first_grouped counts stated (first position room) ∙ e))
      ∙ e

  pub bytes_given : bytes_refusal P n m at (length bytes) (length out) ≡ none → bytes_slice P n m at bytes (length out) ≡ over (bytes_written P n m at (length bytes)) bytes
  unfolding bytes_slice
  bytes_given e = ap (λ (r : Refusal). unless r (over (bytes_written P n m at (length bytes)) bytes) bytes) e

  pub counts_given : bytes_refusal P n m at (length bytes) (length out) ≡ none → counts_slice P n m at (length bytes) out ≡ count_bytes (written_counts P n m at (length bytes))
  unfolding counts_slice
  counts_given e = ap (λ (r : Refusal). unless r (count_bytes (written_counts P n m at (length bytes))) out) e
