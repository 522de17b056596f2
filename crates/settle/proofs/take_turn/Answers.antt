-- One law for each answer of a read.
use Rattle.std.proofs.Common.{◌≡◌, refl, ap, ◌∙◌, ℕ, zero, suc, List, take, Some, Continue}
use Rattle.std.proofs.lemmas.List.{take_min}
use Rattle.text.specs.Reading.{Reading, read_so_far, fed}
use Rattle.settle.specs.Turns.{text_onward, turned}
use Rattle.settle.proofs.take_turn.Goals as goal

-- so many bytes come next
onward : (s : Reading) (size : ℕ) (piece : List ℕ) → (size ≡ 0 → ⊥) → turned s (Some size) piece ≡ text_onward (fed s (take size piece))
unfolding turned
onward s zero piece some = absurd (some refl)
onward s (suc k) piece some = refl

pub returns-in-None : goal.returns-in-None
unfolding turned
returns-in-None c = rw c.in-None.is record { value = cc; numbers_after = cc }

pub returns-in-Some-eq0 : goal.returns-in-Some-eq0
unfolding turned
returns-in-Some-eq0 c =
    let i = c.in-Some-eq0 in
    let end : i.field-0 ≡ 0 = rw i.is at i.field-0-test in
    rw (i.is, end) record { value = cc; numbers_after = cc }

pub returns-in-Some : goal.returns-in-Some
returns-in-Some c =
    let i = c.in-Some in
    let some : i.size ≡ 0 → ⊥ = (rw i.is at i.size-test).1 in
    let piece = c.args.piece.now in
    let cut : take c.min-end.result piece ≡ take i.size piece = ap (λ (k : ℕ). take k piece) c.min-end.ensures ∙ take_min i.size piece in
    let s = read_so_far c.args.reader c.args.numbers.now in
    rw (i.is, onward _ i.size piece some) record {
      value = ap Continue (c.feed.ensures.value ∙ ap (λ (bytes : List ℕ). (fed s bytes).reader) cut);
      numbers_after = c.feed.ensures.numbers_after ∙ ap (λ (bytes : List ℕ). (fed s bytes).numbers) cut;
    }
