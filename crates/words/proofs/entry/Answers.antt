-- `entry` meets its contract: a position that does not fit is behind the last word.
use Rattle.std.proofs.Common.{ap, ◌∙◌, ◌+◌, ◌≡◌, min, arith}
use Rattle.words.specs.Words.{word_at}
use Rattle.words.proofs.Positions.{word_capped}
use Rattle.words.proofs.entry.Goals as goal

pub returns : goal.returns
returns c =
    let a = c.args in
    let e : c.saturating_add-2.result ≡ min (a.at + 1 + a.i) 18446744073709551615 = omega arith in
    c.word.ensures ∙ ap (word_at a.input.now) e ∙ word_capped a.input.now (a.at + 1 + a.i) 18446744073709551615 (omega arith)
