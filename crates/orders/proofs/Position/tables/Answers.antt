-- The counts are judged first; if they pass, the position by the total.
use Rattle.std.proofs.Common.{◌≡◌, refl, sym, arith, length}
use Rattle.std.proofs.lemmas.Result.{err_from_is_err_and}
use Rattle.definitions.specs.Plan.{ask_refusal}
use Rattle.laws.specs.Search.{first_to_refuse}
use Rattle.plan.specs.Plan.{plan}
use Rattle.plan.proofs.Asking.{past_total, within_total}
use Rattle.orders.proofs.Position.tables.Goals as goal
use Rattle.orders.proofs.Position.tables.Goals.{After-length}

pub returns-in_err-counts-clause-refusal : goal.returns-in_err-counts-clause-refusal
unfolding ask_refusal
returns-in_err-counts-clause-refusal c =
    let p = err_from_is_err_and c.from_residual.result c.from_residual.ensures.1 in
    let e = c.in_err-counts in
    rw (p.1, p.2) (first_to_refuse e.field-0.0 e.ensures.refusal _)

-- the plan's length
total : (c : After-length) → let p = c.args.self in c.length.result ≡ length (plan p.n p.m)
total c = let same = c.in_ok-counts.ensures.counts in let made = c.new-tables.ensures in rw (c.length.ensures, made.0, made.1, same.0, same.1) refl

pub returns-then-length-self-clause-refusal : goal.returns-then-length-self-clause-refusal
returns-then-length-self-clause-refusal c =
    let p = c.args.self in
    sym (past_total plan p.n p.m p.at (sym c.in_ok-counts.ensures.refusal) (omega (arith, c.if-length-self.true, total (goal.at.returns-then-length-self-clause-refusal c).After-length)))

pub returns-clause-refusal : goal.returns-clause-refusal
returns-clause-refusal c =
    let p = c.args.self in
    sym (within_total plan p.n p.m p.at (sym c.in_ok-counts.ensures.refusal) (omega (arith, c.if-length-self.false, total (goal.at.returns-clause-refusal c).After-length)))
