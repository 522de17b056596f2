-- `read_groups` meets its contract: each return is one clause of the definition.
use Rattle.std.proofs.Common.{ℕ, ◌-◌, ◌<◌, ◌≤◌, ◌≡◌, refl, List, false, cond, ltb, sym, ap, ◌∙◌, arith, lt-ltb, le-ltb, Err}
use Rattle.std.proofs.lemmas.Result.{err_from_is_err_and}
use Rattle.definitions.specs.Bytes.{Number, number, most_groups, last_group, more_groups, read_groups}
use Rattle.laws.specs.Tests.{positive}
use Rattle.std.proofs.lemmas.Bool.{or_right}
use Rattle.codec.specs.declared.Fault.{Fault}
use Rattle.codec.specs.declared.Fault.TheVariants.{CutShort, Form}
use Rattle.codec.specs.Answer.{groups_answer}
use Rattle.codec.specs.Groups.{groups_limit, limit_grows, only_shortest_groups}
use Rattle.codec.proofs.Places.{no_groups, no_bytes, a_byte}
use Rattle.codec.proofs.+read_groups.Goals as goal
use Rattle.codec.proofs.+read_groups.Goals.{In-Some, Else-x-lt128, else-x-eq0-via-then-x-eq0+else-not-first, else-x-eq0-via-else-x-eq0}

-- the first byte and the bytes behind it
one : (t : ℕ) (c : In-Some t) → let x = c.in-Some.x.now in
    read_groups c.args.g c.args.first c.args.bytes.now ≡ cond (ltb x 128) (last_group c.args.first x) (more_groups x (read_groups (c.args.g - 1) false c.in-Some.rest.now))
one t c = ap (read_groups c.args.g c.args.first) c.in-Some.ensures.cases.0 ∙ a_byte c.args.g c.args.first _ _ c.if-g-eq0.false

-- a byte that is not the last group's
goes_on : (t : ℕ) (c : Else-x-lt128 t) (r : Number) → r ≡ read_groups (c.args.g - 1) false c.in-Some.rest.now → more_groups c.in-Some.x.now r ≡ read_groups c.args.g c.args.first c.args.bytes.now
goes_on t c r e = sym (one t (goal.at.Else-x-lt128 t c).In-Some ∙ simp (le-ltb _ _ c.if-x-lt128.false) (ap (more_groups c.in-Some.x.now) (sym e)))

-- a fault behind it
fault_stays : (x : ℕ) (fault : Fault) → groups_answer (Err fault) ≡ more_groups x (groups_answer (Err fault))
fault_stays x CutShort = refl
fault_stays x Form = refl

-- a rest's value and its bytes are those of a number of the most groups
bounded : (g : ℕ) (s : List ℕ) (v n : ℕ) → g ≤ most_groups → number v n ≡ read_groups (g - 1) false s → (v < groups_limit most_groups) × (n ≤ most_groups)
bounded g s v n h e =
    let r = only_shortest_groups (g - 1) false s v n (sym e) in
    let l : g - 1 ≤ most_groups = omega arith in
    (omega (arith, r.value, limit_grows (g - 1) most_groups l), omega (arith, r.size))

pub returns-then-g-eq0 : goal.returns-then-g-eq0
returns-then-g-eq0 t c = no_groups _ _ _ c.if-g-eq0.true

pub returns-in_default : goal.returns-in_default
returns-in_default t c = no_bytes _ _ _ c.if-g-eq0.false c.in_default.ensures.cases

pub returns-then-not-first : goal.returns-then-not-first
returns-then-not-first t c = sym (one t (goal.at.returns-then-not-first t c).In-Some ∙ simp (c.if-not-first.true, c.if-x-eq0.true))

pub returns-then-x-lt128 : goal.returns-then-x-lt128
returns-then-x-lt128 t c =
    sym (one t (goal.at.returns-then-x-lt128 t c).In-Some ∙ simp (lt-ltb _ _ c.if-x-lt128.true) (elim c.else-x-eq0.branch [
      | else-x-eq0-via-then-x-eq0+else-not-first w ↦ rw w.if-not-first.false refl
      | else-x-eq0-via-else-x-eq0 w ↦ rw (or_right c.args.first _ (lt-ltb _ _ (positive _ w.if-x-eq0.false))) refl
    ]))

pub overflow_mul-result : goal.overflow_mul-result
unfolding groups_limit
overflow_mul-result t c = omega (arith, (bounded c.args.g _ _ _ c.requires c.in_ok-v.ensures).0)

pub overflow_add-result : goal.overflow_add-result
unfolding groups_limit
overflow_add-result t c = omega (arith, (bounded c.args.g _ _ _ c.requires c.in_ok-v.ensures).0)

pub overflow_add-result-2 : goal.overflow_add-result-2
overflow_add-result-2 t c = omega (arith, (bounded c.args.g _ _ _ c.requires c.in_ok-v.ensures).1)

pub returns-in_err-v : goal.returns-in_err-v
returns-in_err-v t c =
    let p = err_from_is_err_and c.from_residual.result c.from_residual.ensures.1 in
    rw (p.1, p.2) (fault_stays c.in-Some.x.now c.in_err-v.field-0.0 ∙ goes_on t (goal.at.returns-in_err-v t c).Else-x-lt128 _ c.in_err-v.ensures)

pub returns : goal.returns
returns t c = goes_on t (goal.at.returns t c).Else-x-lt128 _ c.in_ok-v.ensures
