-- One number of an order after another: what an answer says of the number that was read, and what then follows of the order.
use Rattle.std.proofs.Common.{ℕ, ◌+◌, ◌<◌, ◌≡◌, refl, ap, Bool, true, false, cond, ltb, lt-ltb, arith}
use Rattle.std.specs.declared.result.Result.{Result}
use Rattle.std.specs.Prelude.{IsErrAnd}
use Rattle.std.proofs.lemmas.Result.{err_from_is_err_and}
use Rattle.definitions.specs.declared.Reason.{Reason}
use Rattle.definitions.specs.Answers.{refuse, stated}
use Rattle.definitions.specs.Bytes.{Number, short, bad, number, number_limit, placed, Read, fault, found, below, and_then}
use Rattle.codec.specs.Answer.{ReadResult, given, refused, answer_at, result_answer, limited_answer, answer_found, answer_refused}

-- what `?` gives on is the reason that it was given
pub refused_as : {A : Type 0} (r : Result (A × ℕ) Reason) (reason : Reason) {x : ReadResult A} → IsErrAnd r (λ e. e ≡ reason) → refused (stated reason) ≡ x → result_answer r ≡ x
refused_as r reason h e = let p = err_from_is_err_and r h in rw (p.1, p.2) e

module _ {A : Type 0} (place : ℕ) (r : Read ℕ) (f : ℕ → ℕ → Read A) where
  -- a number refused refuses what it is part of
  pub refused_then : (reason : Reason) → refused (stated reason) ≡ answer_at place r → refused (stated reason) ≡ answer_at place (and_then r f)
  refused_then reason e =
      let w = answer_refused place r (stated reason) e in
      rw w.was (ap refused w.says)

  -- a number found is followed by the rest
  pub found_then : {v next : ℕ} {x : ReadResult A} → given v next ≡ answer_at place r → x ≡ answer_at place (f v next) → x ≡ answer_at place (and_then r f)
  found_then {v} {next} e later = rw (answer_found place r v next e) later

-- the limit of a kind, a cell, a constant
pub limited_below : (place limit over : ℕ) (r : Read ℕ) → limited_answer limit (refuse over place) (answer_at place r) ≡ answer_at place (below limit over r)
limited_below place limit over (fault k) = refl
limited_below place limit over (found v next) = go (ltb v limit)
  where
    go : (t : Bool) → cond t (given v next) (refused (refuse over place)) ≡ answer_at place (cond t (found v next) (fault over))
    go true = refl
    go false = refl

-- the number that was read is the one that stands there
pub placed_number : (v n : ℕ) (r : Number) → v < number_limit → placed 0 (number v n) ≡ placed 0 r → r ≡ number v n
placed_number v n r h e = go r (rw (lt-ltb v number_limit h) at e)
  where
    in_limit : (w k : ℕ) (t : Bool) → found v (0 + n) ≡ cond t (found w (0 + k)) (fault 11) → number w k ≡ number v n
    in_limit w k true e = let p : w ≡ v = cc in let q : 0 + k ≡ 0 + n = cc in let same : k ≡ n = omega arith in rw (p, same) refl
    in_limit w k false e = cc

    go : (r : Number) → found v (0 + n) ≡ placed 0 r → r ≡ number v n
    go short e = cc
    go bad e = cc
    go (number w k) e = in_limit w k (ltb w number_limit) e
