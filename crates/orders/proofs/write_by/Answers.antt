-- `write_by` meets its contract: the counts are judged first, then position and room; if all pass, the orders that fit are written.
use Rattle.std.proofs.Common.{◌≡◌, ◌∙◌, refl, sym, length}
use Rattle.std.proofs.lemmas.Result.{err_from_is_err_and}
use Rattle.definitions.specs.declared.Reason.{Reason}
use Rattle.definitions.specs.Answers.{none, stated}
use Rattle.definitions.specs.Plan.{nothing_written, write_refusal, write_counts, write_slice}
use Rattle.laws.specs.Search.{turned_away}
use Rattle.columns.specs.Plans.{plan_by, plan_by_length}
use Rattle.plan.specs.Plan.{plan}
use Rattle.orders.specs.Calls.{counts_stated, by_room, counts_accepted, slice_accepted, counts_refused, slice_refused}
use Rattle.orders.proofs.write_by.Goals as goal
use Rattle.orders.proofs.write_by.Goals.{Start, After-length-total}

-- the plan's length
total : (c : After-length-total) → let a = c.args in c.length-total.result ≡ length (plan_by a.by plan a.n a.m)
total c =
    let a = c.args in
    let same = c.in_ok-counts.ensures.counts in
    let made = c.new-tables.ensures in
    sym (plan_by_length plan a.n a.m a.by ∙ rw (c.length-total.ensures, made.0, made.1, same.0, same.1) refl)

-- a refused call gives nothing and leaves the slice
nothing : (s : Start) (r : Reason) → let a = s.args in stated r ≡ write_refusal (plan_by a.by plan) a.n a.m a.at (length a.out.now)
    → (nothing_written ≡ write_counts (plan_by a.by plan) a.n a.m a.at (length a.out.now)) × (a.out.now ≡ write_slice (plan_by a.by plan) a.n a.m a.at a.out.now)
nothing s r judged =
    let a = s.args in
    let refused = turned_away r judged in
    (sym (counts_refused (plan_by a.by plan) a.n a.m a.at (length a.out.now) refused), sym (slice_refused (plan_by a.by plan) a.n a.m a.at a.out.now refused))

pub returns-in_err-counts-clause-refusal : goal.returns-in_err-counts-clause-refusal
returns-in_err-counts-clause-refusal c =
    let p = err_from_is_err_and c.from_residual.result c.from_residual.ensures.1 in
    let e = c.in_err-counts in
    rw (p.1, p.2) (counts_stated (plan_by c.args.by plan) _ _ _ _ _ e.ensures.refusal)

pub returns-in_err-counts-clause-counts : goal.returns-in_err-counts-clause-counts
returns-in_err-counts-clause-counts c =
    let p = err_from_is_err_and c.from_residual.result c.from_residual.ensures.1 in
    let e = c.in_err-counts in
    let s = goal.at.returns-in_err-counts-clause-counts c in
    rw p.1 (nothing s.Start e.field-0.0 (counts_stated (plan_by c.args.by plan) _ _ _ _ _ e.ensures.refusal)).0

pub returns-in_err-counts-clause-slice : goal.returns-in_err-counts-clause-slice
returns-in_err-counts-clause-slice c =
    let e = c.in_err-counts in
    let s = goal.at.returns-in_err-counts-clause-slice c in
    (nothing s.Start e.field-0.0 (counts_stated (plan_by c.args.by plan) _ _ _ _ _ e.ensures.refusal)).1

pub returns-in_err-judge_room-clause-refusal : goal.returns-in_err-judge_room-clause-refusal
returns-in_err-judge_room-clause-refusal c =
    let r = c.from_residual-in_err-judge_room in
    let p = err_from_is_err_and r.result r.ensures.1 in
    rw (p.1, p.2) (by_room (plan_by c.args.by plan) _ _ _ _ c.in_ok-counts.ensures.refusal _ _ (total (goal.at.returns-in_err-judge_room-clause-refusal c).After-length-total) c.in_err-judge_room.ensures)

pub returns-in_err-judge_room-clause-counts : goal.returns-in_err-judge_room-clause-counts
returns-in_err-judge_room-clause-counts c =
    let r = c.from_residual-in_err-judge_room in
    let p = err_from_is_err_and r.result r.ensures.1 in
    let s = goal.at.returns-in_err-judge_room-clause-counts c in
    rw p.1 (nothing s.Start c.in_err-judge_room.field-0.0 (by_room (plan_by c.args.by plan) _ _ _ _ c.in_ok-counts.ensures.refusal _ _ (total (goal.at.returns-in_err-judge_room-clause-counts c).After-length-total) c.in_err-judge_room.ensures)).0

pub returns-in_err-judge_room-clause-slice : goal.returns-in_err-judge_room-clause-slice
returns-in_err-judge_room-clause-slice c =
    let s = goal.at.returns-in_err-judge_room-clause-slice c in
    (nothing s.Start c.in_err-judge_room.field-0.0 (by_room (plan_by c.args.by plan) _ _ _ _ c.in_ok-counts.ensures.refusal _ _ (total (goal.at.returns-in_err-judge_room-clause-slice c).After-length-total) c.in_err-judge_room.ensures)).1

pub returns-clause-refusal : goal.returns-clause-refusal
returns-clause-refusal c =
    by_room (plan_by c.args.by plan) _ _ _ _ c.in_ok-counts.ensures.refusal none _ (total (goal.at.returns-clause-refusal c).After-length-total) c.in_ok-judge_room.ensures

pub returns-clause-counts : goal.returns-clause-counts
returns-clause-counts c =
    let same = c.in_ok-counts.ensures.counts in
    let made = c.new-tables.ensures in
    rw (c.write.ensures.counts, made.0, made.1, same.0, same.1) (sym (counts_accepted (plan_by c.args.by plan) _ _ _ _ (sym (by_room (plan_by c.args.by plan) _ _ _ _ c.in_ok-counts.ensures.refusal none _ (total (goal.at.returns-clause-counts c).After-length-total) c.in_ok-judge_room.ensures))))

pub returns-clause-slice : goal.returns-clause-slice
returns-clause-slice c =
    let same = c.in_ok-counts.ensures.counts in
    let made = c.new-tables.ensures in
    rw (c.write.ensures.slice, made.0, made.1, same.0, same.1) (sym (slice_accepted (plan_by c.args.by plan) _ _ _ _ (sym (by_room (plan_by c.args.by plan) _ _ _ _ c.in_ok-counts.ensures.refusal none _ (total (goal.at.returns-clause-slice c).After-length-total) c.in_ok-judge_room.ensures))))
