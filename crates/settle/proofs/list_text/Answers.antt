-- The sheet has 4,096 cells, and out has the room that a listing may need.
use Rattle.std.proofs.Common.{rules, refl}
use Rattle.plan.specs.Plan.{plan}
use Rattle.settlement.specs.WholeText.{settled_first}
use Rattle.stages.specs.Counting.{input_for}
use Rattle.settle.proofs.list_text.Goals as goal

pub returns : goal.returns
returns c =
    settled_first plan (input_for c.args.input c.args.numbers.now) _ _ c.args.out.now _ c.settle-size.ensures.size c.settle-size.ensures.bytes refl (search rules)
