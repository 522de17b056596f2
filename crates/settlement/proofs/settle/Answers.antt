-- `settle` meets its contract: the bytes that it gives are counted.
use Rattle.std.proofs.Common.{length, Err}
use Rattle.plan.specs.Plan.{plan}
use Rattle.stages.specs.Counting.{input_for}
use Rattle.settlement.specs.Settled.{tables_of}
use Rattle.settlement.specs.WholeText.{settled_counts}
use Rattle.settlement.proofs.settle.Goals as goal

pub returns-in-Ok-clause-counted : goal.returns-in-Ok-clause-counted
returns-in-Ok-clause-counted c =
    let a = c.args in
    let e = c.settle_tables.ensures in
    settled_counts plan (tables_of c.in-Ok.tables.n c.in-Ok.tables.m a.numbers.now) (length a.sheet.now) _ a.out.now _ e.size e.bytes

pub returns-in-Err-clause-counted : goal.returns-in-Err-clause-counted
returns-in-Err-clause-counted c =
    let a = c.args in
    let cells = length a.sheet.now in
    let e = c.write_why.ensures in
    settled_counts plan (input_for (Err c.in-Err.why) a.numbers.now) cells _ a.out.now _ (e.size a.numbers.now cells) (e.bytes a.numbers.now cells)
