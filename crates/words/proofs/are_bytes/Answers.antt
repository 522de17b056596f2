-- `are_bytes` meets its contract: each turn asks one word.
use Rattle.std.proofs.Common.{sym, ◌∙◌, arith}
use Rattle.words.proofs.Positions.{none_left, one_byte, no_byte}
use Rattle.words.proofs.are_bytes.Goals as goal

pub returns-then-word-gt-BYTE : goal.returns-then-word-gt-BYTE
returns-then-word-gt-BYTE c = no_byte _ _ _ c.loop-k-test.true (omega (arith, c.word.ensures, c.if-word-gt-BYTE.true)) ∙ sym c.loop-k.invariant

pub loop-k-preserved : goal.loop-k-preserved
loop-k-preserved c = c.loop-k.invariant ∙ one_byte _ _ _ c.loop-k-test.true (omega (arith, c.word.ensures, c.if-word-gt-BYTE.false))

pub returns : goal.returns
returns c = none_left _ _ _ (omega arith) ∙ sym c.loop-k.invariant
