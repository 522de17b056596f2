-- One law for each return.
use Rattle.std.proofs.Common.{rules, sym, ◌∙◌}
use Rattle.text.specs.Steps.{step_decided, step_blank, step_grown}
use Rattle.text.specs.Reading.{read_so_far}
use Rattle.text.proofs.Reader.step.Goals as goal

pub returns-then-is_err : goal.returns-then-is_err
returns-then-is_err c =
    let a = c.args in
    rw (step_decided (read_so_far a.self a.numbers.now) a.byte (sym c.is_err.ensures.value ∙ c.if-is_err.true))
    (search rules)

pub returns-then-is_blank : goal.returns-then-is_blank
returns-then-is_blank c =
    let a = c.args in
    let o = sym c.is_err.ensures.value ∙ c.if-is_err.false in
    let b = sym c.is_blank.ensures ∙ c.if-is_blank.true in
    rw (step_blank (read_so_far a.self a.numbers.now) a.byte o b) c.end_word.ensures

pub returns : goal.returns
returns c =
    let a = c.args in
    let o = sym c.is_err.ensures.value ∙ c.if-is_err.false in
    let b = sym c.is_blank.ensures ∙ c.if-is_blank.false in
    rw (step_grown (read_so_far a.self a.numbers.now) a.byte o b, c.grow.ensures) (search rules)
