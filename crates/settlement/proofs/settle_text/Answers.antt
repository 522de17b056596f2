-- `settle_text` meets its contract: the input read is the one that the documents say the text is.
use Rattle.std.proofs.Common.{length, ap, ◌∙◌}
use Rattle.definitions.specs.Settle.{Input, settle_input, settle_text}
use Rattle.plan.specs.Plan.{plan}
use Rattle.settlement.specs.Settled.{settled_size, settled_slice}
use Rattle.settlement.specs.WholeText.{settled_over}
use Rattle.settlement.proofs.settle_text.Goals as goal

pub returns-clause-printed : goal.returns-clause-printed
unfolding settle_text
returns-clause-printed c =
    let a = c.args in
    let e = c.settle.ensures in
    let cells = length a.sheet.now in
    let q = c.read-input.ensures.input in
    settled_over plan (settle_input a.text.now) cells _ a.out.now _
    (e.size ∙ ap (λ (i : Input). settled_size plan i cells (length a.out.now)) q)
    (e.bytes ∙ ap (λ (i : Input). settled_slice plan i cells a.out.now) q)
