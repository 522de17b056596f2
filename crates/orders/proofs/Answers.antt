-- Document 01's answer where a position is refused, and at the plan's end.
use Rattle.std.proofs.Common.{ℕ, ◌≤◌, ◌≡◌, refl, ap, ◌∙◌, false, true≢false, length, le-ltb}
use Rattle.definitions.specs.Answers.{Refusal, none, refuse, is_none}
use Rattle.definitions.specs.Calls.{counts_refusal}
use Rattle.definitions.specs.Plan.{Plan, ended, refused, answered, position_refusal, entry, ask_refusal, asked}
use Rattle.laws.specs.Refusal.{first_left}

module _ (P : Plan) (n m at : ℕ) where
  pub asked_refused : is_none (ask_refusal P n m at) ≡ false → asked P n m at ≡ refused (ask_refusal P n m at)
  unfolding asked
  asked_refused = go (ask_refusal P n m at)
    where
      go : (r : Refusal) → is_none r ≡ false → answered r (entry (P n m) at) ≡ refused r
      go none e = absurd (true≢false e)
      go (refuse k x) e = refl

  pub counts_none : ask_refusal P n m at ≡ none → counts_refusal n m ≡ none
  unfolding ask_refusal
  counts_none e = first_left (counts_refusal n m) (position_refusal (P n m) at) e

  pub asked_from_end : ask_refusal P n m at ≡ none → length (P n m) ≤ at → asked P n m at ≡ ended
  unfolding asked
  asked_from_end e h = ap (λ (r : Refusal). answered r (entry (P n m) at)) e ∙ simp (le-ltb at (length (P n m)) h)
