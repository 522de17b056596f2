-- `starts` meets its contract: each turn passes one slice.
use Rattle.std.proofs.Common.{ℕ, ◌+◌, ◌<◌, ◌≢◌, refl, sym, ap, ◌∙◌, option_map, List, length, arith, below_more, get_or-set_other, get_or-set_same, length-set}
use Rattle.std.proofs.lemmas.List.{length-replicate}
use Rattle.words.specs.Words.{after_slices}
use Rattle.words.proofs.Positions.{one_slice, none_behind}
use Rattle.words.proofs.starts.Goals as goal

pub loop-start-init : goal.loop-start-init
unfolding after_slices
loop-start-init g c = record { places = length-replicate _ _; behind = refl; starts = λ k h. absurd (omega arith) }

pub returns-in_err-end-clause-end : goal.returns-in_err-end-clause-end
returns-in_err-end-clause-end g c =
    let l = c.loop-start in
    let a = c.args in
    let missing = one_slice a.input.now a.at l.start-index l.end l.invariant.behind ∙ sym c.in_err-end.ensures in
    ap (option_map (λ (found : List ℕ × ℕ). found.1)) c.from_residual.ensures ∙ sym (none_behind a.input.now a.at (l.start-index + 1) g.row.N missing (omega arith))

pub loop-start-preserved : goal.loop-start-preserved
loop-start-preserved g c =
    let l = c.loop-start in
    record {
      places = length-set _ _ _ ∙ l.invariant.places;
      behind = one_slice _ _ _ _ l.invariant.behind ∙ sym c.in_ok-end.ensures;
      starts = below_more _ _
          (λ k h. let ne : k ≢ l.start-index = omega arith in rw get_or-set_other (l.invariant.starts k h))
          (let lt : l.start-index < length l.start-items = omega arith in rw get_or-set_same l.invariant.behind);
    }
