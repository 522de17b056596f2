-- `ask_by` meets its contract: the position is judged first; if it passes, there is an order before the total, and at the total the plan has ended.
use Rattle.std.proofs.Common.{◌+◌, ◌≡◌, ◌<◌, get_or, refl, sym, ap, ◌∙◌, arith, length}
use Rattle.std.proofs.lemmas.Result.{err_from_is_err_and}
use Rattle.definitions.specs.declared.Reason.{Reason}
use Rattle.definitions.specs.declared.Order.{Order}
use Rattle.definitions.specs.declared.Order.TheVariants.{Constant}
use Rattle.definitions.specs.Answers.{none, stated}
use Rattle.definitions.specs.Plan.{refused, order, ask_refusal}
use Rattle.laws.specs.Search.{turned_away}
use Rattle.columns.specs.Plans.{plan_by, plan_by_length, plan_by_entry, ask_refusal_by}
use Rattle.plan.specs.Plan.{plan}
use Rattle.plan.proofs.Asking.{asked_before_end}
use Rattle.orders.proofs.Answers.{asked_refused, counts_none, asked_from_end}
use Rattle.orders.proofs.Position.ask_by.Goals as goal
use Rattle.orders.proofs.Position.ask_by.Goals.{After-length, Start}

-- what the row plan refuses, the plan by either numbering does
judged : (s : Start) (r : Reason) → let p = s.args.self in stated r ≡ ask_refusal plan p.n p.m p.at → stated r ≡ ask_refusal (plan_by s.args.by plan) p.n p.m p.at
judged s r e = let p = s.args.self in e ∙ sym (ask_refusal_by plan p.n p.m s.args.by p.at)

pub returns-in_err-tables-clause-answer : goal.returns-in_err-tables-clause-answer
returns-in_err-tables-clause-answer c =
    let p = err_from_is_err_and c.from_residual.result c.from_residual.ensures.1 in
    let e = c.in_err-tables in
    let s = c.args.self in
    let stated = judged (goal.at.returns-in_err-tables-clause-answer c).Start e.field-0.0 e.ensures.refusal in
    rw (p.1, p.2) (ap refused stated ∙ sym (asked_refused (plan_by c.args.by plan) s.n s.m s.at (turned_away e.field-0.0 stated)))

-- the plan's length
total : (c : After-length) → let s = c.args.self in c.length.result ≡ length (plan_by c.args.by plan s.n s.m)
total c =
    let s = c.args.self in
    let same = c.in_ok-tables.ensures.counts in
    sym (plan_by_length plan s.n s.m c.args.by ∙ rw (c.length.ensures, same.0, same.1) refl)

-- the position passed
passed : (c : After-length) → let s = c.args.self in ask_refusal (plan_by c.args.by plan) s.n s.m s.at ≡ none
passed c = let s = c.args.self in ask_refusal_by plan s.n s.m c.args.by s.at ∙ sym c.in_ok-tables.ensures.refusal

pub returns-then-length-self-clause-answer : goal.returns-then-length-self-clause-answer
returns-then-length-self-clause-answer c =
    let s = c.args.self in
    let a = (goal.at.returns-then-length-self-clause-answer c).After-length in
    sym (asked_from_end (plan_by c.args.by plan) s.n s.m s.at (passed a) (omega (arith, c.if-length-self.true, total a)))

pub returns-clause-answer : goal.returns-clause-answer
returns-clause-answer c =
    let s = c.args.self in
    let a = (goal.at.returns-clause-answer c).After-length in
    let same = c.in_ok-tables.ensures.counts in
    let before : s.at < length (plan_by c.args.by plan s.n s.m) = omega (arith, c.if-length-self.false, total a) in
    let counts = counts_none (plan_by c.args.by plan) s.n s.m s.at (passed a) in
    let found : c.order-order.result ≡ get_or (plan_by c.args.by plan s.n s.m) s.at (Constant 0 0) =
    rw (c.order-order.ensures, c.order_at.ensures, same.0, same.1) (sym (plan_by_entry plan s.n s.m c.args.by s.at (omega (arith, before, plan_by_length plan s.n s.m c.args.by)))) in
    ap (λ (o : Order). order o (s.at + 1)) found ∙ sym (asked_before_end (plan_by c.args.by plan) s.n s.m s.at counts before)
