-- After the last phase the whole plan is run.
use Rattle.std.proofs.Common.{ℕ, ◌≡◌, sym, ap, ◌∙◌, arith, List, length}
use Rattle.plan.specs.Orders.{OrderOn}
use Rattle.plan.specs.Names.{Name}
use Rattle.plan.specs.Loops.{loop}
use Rattle.plan.specs.Phased.{all_rows, flat_loop, phase_in}
use Rattle.plan.specs.Table.{phase_at, table, table_length}
use Rattle.orders.specs.Runs.{ran_of, ran_plan}
use Rattle.orders.proofs.tables.Tables.run.Goals as goal

pub returns : goal.returns
unfolding phase_at
returns c =
    let a = c.args in
    let n = a.self.now.counts.n in
    let m = a.self.now.counts.m in
    let t = table n m in
    let f : ℕ → List (OrderOn Name) = λ u. all_rows (phase_in t u) in
    let last : c.loop-k.k ≡ length t = omega (arith, table_length n m, c.loop-k-test.false, c.loop-k.auto.k-end) in
    c.loop-k.invariant
    ∙ ap (λ (k : ℕ). ran_of n m (loop k f) a.sheet.now) last
    ∙ ap (λ (l : List (OrderOn Name)). ran_of n m l a.sheet.now) (sym (flat_loop t))
    ∙ ran_plan n m a.sheet.now
