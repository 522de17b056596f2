-- `slices` meets its contract: the input ends where the slices do.
use Rattle.std.proofs.Common.{ap, ◌∙◌, is_some}
use Rattle.words.specs.Words.{ends, is_call}
use Rattle.words.proofs.Positions.{is_some_then}
use Rattle.words.proofs.slices.Goals as goal

pub returns-in_err-starts-clause-form : goal.returns-in_err-starts-clause-form
unfolding is_call
returns-in_err-starts-clause-form g c = ap is_some c.from_residual.ensures ∙ ap (ends c.args.input.now) c.in_err-starts.ensures.end

pub returns-clause-form : goal.returns-clause-form
unfolding is_call
returns-clause-form g c =
    ap is_some c.then_some.ensures ∙ is_some_then _ _ ∙ c.ends_at.ensures ∙ ap (ends c.args.input.now) c.in_ok-starts.ensures.end
