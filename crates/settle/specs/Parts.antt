-- A text of which only a part was read is never cleared (`part_turned_away`).
use Rattle.std.specs.Prelude.{ℕ, zero, suc, ◌≡◌, refl, false, List, [], ◌++◌, take, Option, Some, None}
use Rattle.std.proofs.Common.{sym, ap, ◌∙◌, subst, true≢false, append_assoc}
use Rattle.definitions.specs.Settle.{settle_input}
use Rattle.text.specs.Reading.{failed_read}
use Rattle.text.specs.Broken.{TurnedAway, broken_turned_away}
use Rattle.settle.specs.Turns.{ReadAnswer, later_reads, text_before, text_of, end_before, end_found}

-- what was read before it broke off
pub record BreaksOff (text : List ℕ) : Type 0 where
  pub start : List ℕ
  pub same : text ≡ start ++ failed_read

part_broken : (turns : ℕ) (reads : ℕ → ReadAnswer) → end_found turns reads ≡ false → BreaksOff (text_of turns reads)
unfolding text_of end_found
part_broken zero reads e = record { start = []; same = refl }
part_broken (suc turns) reads e = go (reads 0).got (reads 0).piece e (part_broken turns (later_reads reads))
  where
    go : (got : Option ℕ) (piece : List ℕ) → end_before got (end_found turns (later_reads reads)) ≡ false
        → (end_found turns (later_reads reads) ≡ false → BreaksOff (text_of turns (later_reads reads)))
        → BreaksOff (text_before got piece (text_of turns (later_reads reads)))
    go None piece f onward = record { start = []; same = refl }
    go (Some zero) piece f onward = absurd (true≢false f)
    go (Some (suc k)) piece f onward =
        let later = onward f in
        record {
          start = take (suc k) piece ++ later.start;
          same = ap (λ (l : List ℕ). take (suc k) piece ++ l) later.same ∙ sym (append_assoc (take (suc k) piece) later.start failed_read);
        }

-- where no read has found the end of the input, what was read is never cleared as if it were the whole
pub part_turned_away : (turns : ℕ) (reads : ℕ → ReadAnswer) → end_found turns reads ≡ false → TurnedAway (settle_input (text_of turns reads))
part_turned_away turns reads e =
    let b = part_broken turns reads e in
    subst (λ (text : List ℕ). TurnedAway (settle_input text)) (sym b.same) (broken_turned_away b.start)
