-- Asking a plan at a position: refused by the counts or past the total, ended at the total, an order before it.
use Rattle.std.specs.Prelude.{ℕ, ◌+◌, ◌≤◌, ◌<◌, ◌≡◌, length, get_or}
use Rattle.std.proofs.Common.{refl, ap, ◌∙◌, true≢false, arith, lt-ltb, le-ltb, false}
use Rattle.definitions.specs.declared.Order.TheVariants.{Constant}
use Rattle.definitions.specs.Answers.{Refusal, none, refuse, first, unless, is_none}
use Rattle.definitions.specs.Calls.{counts_refusal}
use Rattle.definitions.specs.Plan.{Plan, order, ended, refused, entry, answered, position_refusal, asked, ask_refusal, total}
use Rattle.laws.specs.Refusal.{unless_refused}

module _ (P : Plan) (n m at : ℕ) where
  -- by the counts
  pub refused_by_counts : is_none (counts_refusal n m) ≡ false → asked P n m at ≡ refused (counts_refusal n m)
  unfolding asked ask_refusal
  refused_by_counts = go (counts_refusal n m)
    where
      go : (r : Refusal) → is_none r ≡ false → answered (first r (position_refusal (P n m) at)) (entry (P n m) at) ≡ refused r
      go none e = absurd (true≢false e)
      go (refuse k x) e = refl

  -- by the position
  pub ask_refusal_lem : counts_refusal n m ≡ none → ask_refusal P n m at ≡ position_refusal (P n m) at
  unfolding ask_refusal
  ask_refusal_lem e = ap (λ (r : Refusal). first r (position_refusal (P n m) at)) e

  pub past_total : counts_refusal n m ≡ none → length (P n m) < at → ask_refusal P n m at ≡ refuse 13 0
  past_total e h = ask_refusal_lem e ∙ simp (lt-ltb _ _ h)

  pub within_total : counts_refusal n m ≡ none → at ≤ length (P n m) → ask_refusal P n m at ≡ none
  within_total e h = ask_refusal_lem e ∙ simp (le-ltb _ _ h)

  asked_within : counts_refusal n m ≡ none → at ≤ length (P n m) → asked P n m at ≡ entry (P n m) at
  unfolding asked
  asked_within e h = ap (λ (r : Refusal). answered r (entry (P n m) at)) (within_total e h)

  pub asked_at_end : counts_refusal n m ≡ none → at ≡ length (P n m) → asked P n m at ≡ ended
  asked_at_end e h = asked_within e (omega arith) ∙ simp (le-ltb at (length (P n m)) (omega arith))

  pub asked_before_end : counts_refusal n m ≡ none → at < length (P n m) → asked P n m at ≡ order (get_or (P n m) at (Constant 0 0)) (at + 1)
  asked_before_end e h = asked_within e (omega arith) ∙ simp (lt-ltb _ _ h)

-- ---- The total

module _ (P : Plan) (n m : ℕ) where
  pub total_accepted : counts_refusal n m ≡ none → total P n m ≡ length (P n m)
  unfolding total
  total_accepted e = ap (λ (r : Refusal). unless r (length (P n m)) 0) e

  pub total_refused : is_none (counts_refusal n m) ≡ false → total P n m ≡ 0
  unfolding total
  total_refused e = unless_refused (counts_refusal n m) (length (P n m)) 0 e
