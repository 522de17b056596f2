-- Each turn leads on or ends the text, and so does the end of the turns.
use Rattle.std.proofs.Common.{◌-◌, ◌+◌, arith}
use Rattle.settle.specs.Turns.{read_limit}
use Rattle.settle.specs.Whole.{no_turn, turn_onward, turn_over, turns_over}
use Rattle.settle.proofs.read_text.Goals as goal

pub loop-init : goal.loop-init
loop-init g c = no_turn _ _ c.start-reader.ensures

pub returns-in-Break : goal.returns-in-Break
returns-in-Break g c =
    let l = c.loop in
    turn_over _ l.reader l.numbers _ (read_limit - l.counter) (read_limit - (l.counter + 1)) _ _ _ l.invariant (omega arith) c.in-Break.ensures.value c.in-Break.ensures.numbers_after

pub loop-preserved : goal.loop-preserved
loop-preserved g c =
    let l = c.loop in
    turn_onward _ l.reader _ l.numbers _ (read_limit - l.counter) _ _ _ l.invariant (omega arith) c.in-Continue.ensures.value c.in-Continue.ensures.numbers_after

pub returns : goal.returns
returns g c =
    let l = c.loop in
    turns_over _ l.reader l.numbers _ (read_limit - l.counter) _ l.invariant (omega arith) c.break_off.ensures.value c.break_off.ensures.numbers_after
