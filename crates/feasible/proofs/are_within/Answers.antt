-- `are_within` meets its contract: each turn tests one number.
use Rattle.std.proofs.Common.{ℕ, ◌+◌, ◌*◌, ◌≡◌, sym, ap, ap₂, ◌∙◌, arith, ℤ, pos, nat_abs, length, get_or, w32}
use Rattle.definitions.specs.Arithmetic.{all_to, within}
use Rattle.laws.specs.All.{all_to_begins, all_to_turn, all_to_fails}
use Rattle.laws.specs.SignedTests.{back}
use Rattle.feasible.specs.Tests.{within_size, within_sizes}
use Rattle.feasible.proofs.are_within.Goals as goal
use Rattle.feasible.proofs.are_within.Goals.{After-is_within_size}

pub loop-k-init : goal.loop-k-init
loop-k-init c = all_to_begins _

-- what was found of this turn's number
found : (c : After-is_within_size) → let a = c.args in c.is_within_size.result ≡ within_size a.numbers.now a.limits.now a.first a.step c.loop-k.k
found c =
    let a = c.args in
    let k = c.loop-k.k in
    c.is_within_size.ensures
    ∙ ap₂ (λ (l : ℤ) (v : ℤ). within (pos 0) (pos (nat_abs l)) v)
    (back w32 (get_or a.limits.now (a.step * k + a.first) (pos 0)) c.limit-1.given)
    (back w32 (get_or a.numbers.now k (pos 0)) c.number-1.given)

pub returns-then-not-is_within_size : goal.returns-then-not-is_within_size
unfolding within_sizes
returns-then-not-is_within_size c =
    let a = c.args in
    sym (all_to_fails (length a.numbers.now) (within_size a.numbers.now a.limits.now a.first a.step) c.loop-k.k c.loop-k-test.true
    (sym (found c.before) ∙ c.if-not-is_within_size.true))

pub loop-k-preserved : goal.loop-k-preserved
loop-k-preserved c =
    let a = c.args in
    all_to_turn c.loop-k.k (within_size a.numbers.now a.limits.now a.first a.step) c.loop-k.invariant (sym (found c.before) ∙ c.if-not-is_within_size.false)

pub returns : goal.returns
unfolding within_sizes
returns c =
    let a = c.args in
    let e : length a.numbers.now ≡ c.loop-k.k = omega arith in
    sym (ap (λ (k : ℕ). all_to k (within_size a.numbers.now a.limits.now a.first a.step)) e ∙ c.loop-k.invariant)
