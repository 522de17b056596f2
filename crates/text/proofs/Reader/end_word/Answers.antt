-- The number is stored at its place, and the stage takes it.
use Rattle.text.specs.Reading.{word_ended}
use Rattle.text.proofs.Reader.end_word.Goals as goal

pub returns-clause-value : goal.returns-clause-value
unfolding word_ended
returns-clause-value c = cc

pub returns-clause-numbers_after : goal.returns-clause-numbers_after
unfolding word_ended
returns-clause-numbers_after c = cc
