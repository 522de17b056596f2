-- `after_bytes` meets its contract: by where the slice ends and whether its words are bytes.
use Rattle.std.proofs.Common.{ap, ◌∙◌, Bool, arith}
use Rattle.std.specs.Bool.{then_some}
use Rattle.words.proofs.Positions.{slice_end, bytes_missing, bytes_here}
use Rattle.words.proofs.after_bytes.Goals as goal

pub returns-in_err-end : goal.returns-in_err-end
returns-in_err-end c = c.from_residual.ensures ∙ bytes_missing _ _ c.in_err-end.ensures

pub overflow_add-at : goal.overflow_add-at
overflow_add-at c = omega (arith, slice_end c.args.input.now c.args.at _ c.in_ok-end.ensures, c.ranges)

pub returns : goal.returns
returns c =
    c.then_some.ensures ∙ ap (λ (test : Bool). then_some test c.in_ok-end.end) c.are_bytes.ensures ∙ bytes_here _ _ _ c.in_ok-end.ensures
