-- `judge_capacities` meets its contract: each turn judges one entry; behind the last of a row come the rows from a + 1 on.
use Rattle.std.proofs.Common.{ℕ, ◌+◌, ◌*◌, ◌≡◌, refl, sym, ap, ◌∙◌, List, [], ℤ, pos, eqb, get_or, w32}
use Rattle.definitions.specs.Answers.{refusal_of, numbered, is_none}
use Rattle.definitions.specs.Book.{Book, book}
use Rattle.definitions.specs.Calls.{capacity_fault, entry_refusal, row_refusal, capacities_refusal}
use Rattle.laws.specs.SignedTests.{back}
use Rattle.laws.specs.Verdicts.{passed_is_ok, passed_none, failed_refuses}
use Rattle.laws.specs.Search.{search_begins, search_passes, search_stops, search_ends}
use Rattle.judging.proofs.judge_capacities.Goals as goal
use Rattle.judging.proofs.judge_capacities.Goals.{After-judge_capacity-verdict}

-- the book as far as capacities go
abbrev lines : ℕ → List ℤ → Book
lines m capacities = book 0 m [] capacities

pub rows-init : goal.rows-init
unfolding capacities_refusal
rows-init c = let a = c.args in record { accepted = refl; rest = search_begins a.counts.m (row_refusal (lines a.counts.m a.capacities.now)) }

pub loop-b-init : goal.loop-b-init
unfolding row_refusal
loop-b-init c = let a = c.args in record { accepted = c.rows.invariant.accepted; rest = search_begins a.counts.m (entry_refusal (lines a.counts.m a.capacities.now) c.rows.a) }

-- the verdict is that of the entry of row a, column b
judged : (c : After-judge_capacity-verdict) → refusal_of c.judge_capacity-verdict.result ≡ entry_refusal (lines c.args.counts.m c.args.capacities.now) c.rows.a c.loop-b.b
judged c =
    let at = c.rows.a * c.args.counts.m + c.loop-b.b in
    c.judge_capacity-verdict.ensures
    ∙ ap (λ (entry : ℤ). numbered (capacity_fault (eqb c.rows.a c.loop-b.b) entry) (at + 1)) (back w32 (get_or c.args.capacities.now at (pos 0)) c.capacity-1.given)

pub loop-b-preserved : goal.loop-b-preserved
loop-b-preserved c =
    let m = c.args.counts.m in
    let B = lines m c.args.capacities.now in
    let here = judged (goal.at.loop-b-preserved c).After-judge_capacity-verdict in
    let passed = sym c.is_err.ensures.value ∙ c.if-is_err.false in record {
      accepted = passed_is_ok _ passed;
      rest = c.loop-b.invariant.rest ∙ search_passes m (entry_refusal B c.rows.a) c.loop-b.b c.loop-b-test.true (sym here ∙ passed_none _ passed);
    }

pub rows-preserved : goal.rows-preserved
rows-preserved c =
    let m = c.args.counts.m in
    let B = lines m c.args.capacities.now in record {
      accepted = c.loop-b.invariant.accepted;
      rest =
          c.rows.invariant.rest
          ∙ search_passes m (row_refusal B) c.rows.a c.rows-test.true (c.loop-b.invariant.rest ∙ search_ends m (entry_refusal B c.rows.a) c.loop-b.b c.loop-b-test.false);
    }

pub returns-after-rows : goal.returns-after-rows
returns-after-rows c =
    let m = c.args.counts.m in
    ap refusal_of c.rows.invariant.accepted ∙ sym (c.rows.invariant.rest ∙ search_ends m (row_refusal (lines m c.args.capacities.now)) c.rows.a c.rows-test.false)

pub returns-then-is_err : goal.returns-then-is_err
returns-then-is_err c =
    let m = c.args.counts.m in
    let a = c.rows.a in
    let B = lines m c.args.capacities.now in
    let here = judged (goal.at.returns-then-is_err c).After-judge_capacity-verdict in
    let refused = ap is_none (sym here) ∙ failed_refuses _ (sym c.is_err.ensures.value ∙ c.if-is_err.true) in
    let row = c.loop-b.invariant.rest ∙ search_stops m (entry_refusal B a) c.loop-b.b c.loop-b-test.true refused in
    here ∙ sym (c.rows.invariant.rest ∙ search_stops m (row_refusal B) a c.rows-test.true (ap is_none row ∙ refused) ∙ row)
