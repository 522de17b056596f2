-- `next` meets its contract: each turn by what `read_order` answers.
use Rattle.std.proofs.Common.{rules}
use Rattle.definitions.specs.Answers.{stated}
use Rattle.codec.specs.PlanBytes.{rest_end}
use Rattle.runner.proofs.Turns.{turn_refused, turn_order, turn_read}
use Rattle.runner.proofs.OrdersIterator.next.Goals as goal

pub returns-then-self-clause-steps : goal.returns-then-self-clause-steps
returns-then-self-clause-steps c = let reader = c.args.self.now in rest_end reader.bytes.now reader.at c.if-self.true

pub returns-in-Ok-clause-steps : goal.returns-in-Ok-clause-steps
returns-in-Ok-clause-steps c = let reader = c.args.self.now in turn_order reader.bytes.now reader.at c.if-self.false _ _ c.in-Ok.ensures

pub returns-in-Ok-clause-goes : goal.returns-in-Ok-clause-goes
returns-in-Ok-clause-goes c =
    let reader = c.args.self.now in
    let read = turn_read reader.bytes.now reader.at _ _ c.in-Ok.ensures in
    let on = read.onward in
    let within = read.within in
    search rules

pub returns-in-Err-clause-steps : goal.returns-in-Err-clause-steps
returns-in-Err-clause-steps c = let reader = c.args.self.now in turn_refused reader.bytes.now reader.at c.if-self.false (stated c.in-Err.reason) c.in-Err.ensures
