-- `slices_and_bytes` meets its contract: the input ends where the slice of bytes does.
use Rattle.std.proofs.Common.{ap, ◌∙◌, is_some, Option, ℕ}
use Rattle.std.specs.Option.{option_and_then}
use Rattle.words.specs.Words.{ends, after_bytes, is_call_with_bytes}
use Rattle.words.proofs.Positions.{is_some_then}
use Rattle.words.proofs.slices_and_bytes.Goals as goal

pub returns-in_err-starts-clause-form : goal.returns-in_err-starts-clause-form
unfolding is_call_with_bytes
returns-in_err-starts-clause-form g c =
    let input = c.args.input.now in
    ap is_some c.from_residual.ensures ∙ ap (λ (behind : Option ℕ). ends input (option_and_then (after_bytes input) behind)) c.in_err-starts.ensures.end

pub returns-in_err-end-clause-form : goal.returns-in_err-end-clause-form
unfolding is_call_with_bytes
returns-in_err-end-clause-form g c =
    let input = c.args.input.now in
    ap is_some c.from_residual-in_err-end.ensures ∙ ap (ends input) c.in_err-end.ensures
    ∙ ap (λ (behind : Option ℕ). ends input (option_and_then (after_bytes input) behind)) c.in_ok-starts.ensures.end

pub returns-clause-form : goal.returns-clause-form
unfolding is_call_with_bytes
returns-clause-form g c =
    let input = c.args.input.now in
    ap is_some c.then_some.ensures ∙ is_some_then _ _ ∙ c.ends_at.ensures ∙ ap (ends input) c.in_ok-end.ensures
    ∙ ap (λ (behind : Option ℕ). ends input (option_and_then (after_bytes input) behind)) c.in_ok-starts.ensures.end
