-- `read_order` meets its contract, number by number: each is refused, or is followed by the next.
use Rattle.std.proofs.Common.{ℕ, ◌≡◌, refl, eq-eqb, ne_eqb, Option, Some, None, Ok, Err}
use Rattle.std.specs.Prelude.{ok_or}
use Rattle.definitions.specs.declared.Order.{Order}
use Rattle.definitions.specs.declared.Order.TheVariants.{Constant}
use Rattle.definitions.specs.declared.Reason.{Reason}
use Rattle.definitions.specs.declared.Reason.TheVariants.{Kind}
use Rattle.definitions.specs.Answers.{stated}
use Rattle.definitions.specs.Bytes.{Read, found, kind_at, cell_at, constant_at, cells_orders, of_kind, last_at, rest_at, target_at, order_at}
use Rattle.codec.specs.Answer.{ReadResult, given, refused, answer_at, kind_answer}
use Rattle.codec.proofs.Steps.{refused_as, refused_then, found_then}
use Rattle.codec.proofs.read_order.Goals as goal
use Rattle.codec.proofs.read_order.Goals.{In_ok-kind, In_ok-d, In_ok-a, In_ok-b}

-- ---- what stands behind a number that was read is the order's answer

behind_kind : (c : In_ok-kind) {x : ReadResult Order} → x ≡ answer_at c.args.at (target_at c.args.bytes.now c.in_ok-kind.kind c.in_ok-kind.next) → x ≡ answer_at c.args.at (order_at c.args.bytes.now c.args.at)
unfolding order_at
behind_kind c e = found_then c.args.at (kind_at c.args.bytes.now c.args.at) (target_at c.args.bytes.now) c.in_ok-kind.ensures e

behind_target : (c : In_ok-d) {x : ReadResult Order} → x ≡ answer_at c.args.at (rest_at c.args.bytes.now c.in_ok-kind.kind c.in_ok-d.d c.in_ok-d.next) → x ≡ answer_at c.args.at (order_at c.args.bytes.now c.args.at)
unfolding target_at
behind_target c e =
    let k = c.in_ok-kind in
    behind_kind (goal.at.In_ok-d c).In_ok-kind (found_then c.args.at (cell_at c.args.bytes.now k.next) (rest_at c.args.bytes.now k.kind) c.in_ok-d.ensures e)

behind_first : (c : In_ok-a) {x : ReadResult Order} → x ≡ answer_at c.args.at (last_at c.args.bytes.now c.in_ok-kind.kind c.in_ok-d.d c.in_ok-a.a c.in_ok-a.next) → x ≡ answer_at c.args.at (order_at c.args.bytes.now c.args.at)
unfolding rest_at
behind_first c e =
    let kind = c.in_ok-kind.kind in
    let d = c.in_ok-d in
    behind_target (goal.at.In_ok-a c).In_ok-d (rw (ne_eqb kind 0 c.if-kind-eq0.false) (found_then c.args.at (cell_at c.args.bytes.now d.next) (last_at c.args.bytes.now kind d.d) c.in_ok-a.ensures e))

behind_second : (c : In_ok-b) {x : ReadResult Order} → x ≡ answer_at c.args.at (of_kind c.in_ok-kind.kind c.in_ok-b.next (cells_orders c.in_ok-d.d c.in_ok-a.a c.in_ok-b.b)) → x ≡ answer_at c.args.at (order_at c.args.bytes.now c.args.at)
unfolding last_at
behind_second c e =
    let a = c.in_ok-a in
    behind_first (goal.at.In_ok-b c).In_ok-a (found_then c.args.at (cell_at c.args.bytes.now a.next) (λ b next. of_kind c.in_ok-kind.kind next (cells_orders c.in_ok-d.d a.a b)) c.in_ok-b.ensures e)

-- ---- what the order of a kind is

module _ (place next : ℕ) (r : Read Order) where
  not_of_kind : (o : Option Order) (reason : Reason) → Err reason ≡ ok_or o (Kind place) → kind_answer next o ≡ r → refused (stated reason) ≡ answer_at place r
  not_of_kind None reason e k = let p : reason ≡ Kind place = cc in rw (p, ← k) refl
  not_of_kind (Some o) reason e k = cc

  of_that_kind : (o : Option Order) (order : Order) → Ok order ≡ ok_or o (Kind place) → kind_answer next o ≡ r → given order next ≡ answer_at place r
  of_that_kind None order e k = cc
  of_that_kind (Some o) order e k = let p : order ≡ o = cc in rw (p, ← k) refl

-- ---- the returns

pub returns-in_err-kind : goal.returns-in_err-kind
unfolding order_at
returns-in_err-kind c =
    refused_as c.from_residual.result _ c.from_residual.ensures.1 (refused_then c.args.at (kind_at c.args.bytes.now c.args.at) (target_at c.args.bytes.now) _ c.in_err-kind.ensures)

pub returns-in_err-d : goal.returns-in_err-d
unfolding target_at
returns-in_err-d c =
    let r = c.from_residual-in_err-d in
    let k = c.in_ok-kind in
    refused_as r.result _ r.ensures.1 (behind_kind (goal.at.returns-in_err-d c).In_ok-kind (refused_then c.args.at (cell_at c.args.bytes.now k.next) (rest_at c.args.bytes.now k.kind) _ c.in_err-d.ensures))

-- what follows the constant
abbrev whole : (d : ℕ) → ℕ → ℕ → Read Order
whole d k next = found (Constant d k) next

pub returns-in_err-k : goal.returns-in_err-k
unfolding rest_at
returns-in_err-k c =
    let r = c.from_residual-in_err-k in
    let d = c.in_ok-d in
    refused_as r.result _ r.ensures.1 (behind_target (goal.at.returns-in_err-k c).In_ok-d (rw (eq-eqb c.in_ok-kind.kind 0 c.if-kind-eq0.true) (refused_then c.args.at (constant_at c.args.bytes.now d.next) (whole d.d) _ c.in_err-k.ensures)))

pub returns-then-kind-eq0 : goal.returns-then-kind-eq0
unfolding rest_at
returns-then-kind-eq0 c =
    let d = c.in_ok-d in
    behind_target (goal.at.returns-then-kind-eq0 c).In_ok-d (rw (eq-eqb c.in_ok-kind.kind 0 c.if-kind-eq0.true) (found_then c.args.at (constant_at c.args.bytes.now d.next) (whole d.d) c.in_ok-k.ensures refl))

pub returns-in_err-a : goal.returns-in_err-a
unfolding rest_at
returns-in_err-a c =
    let r = c.from_residual-in_err-a in
    let d = c.in_ok-d in
    refused_as r.result _ r.ensures.1 (behind_target (goal.at.returns-in_err-a c).In_ok-d (rw (ne_eqb c.in_ok-kind.kind 0 c.if-kind-eq0.false) (refused_then c.args.at (cell_at c.args.bytes.now d.next) (last_at c.args.bytes.now c.in_ok-kind.kind d.d) _ c.in_err-a.ensures)))

pub returns-in_err-b : goal.returns-in_err-b
unfolding last_at
returns-in_err-b c =
    let r = c.from_residual-in_err-b in
    let a = c.in_ok-a in
    refused_as r.result _ r.ensures.1 (behind_first (goal.at.returns-in_err-b c).In_ok-a (refused_then c.args.at (cell_at c.args.bytes.now a.next) (λ b next. of_kind c.in_ok-kind.kind next (cells_orders c.in_ok-d.d a.a b)) _ c.in_err-b.ensures))

pub returns-in_err-order : goal.returns-in_err-order
returns-in_err-order c =
    let r = c.from_residual-in_err-order in
    let next = c.in_ok-b.next in
    refused_as r.result _ r.ensures.1 (behind_second (goal.at.returns-in_err-order c).In_ok-b (not_of_kind c.args.at next _ _ _ c.in_err-order.ensures.value (c.cells_order.ensures next)))

pub returns : goal.returns
returns c =
    let next = c.in_ok-b.next in
    behind_second (goal.at.returns c).In_ok-b (of_that_kind c.args.at next _ _ _ c.in_ok-order.ensures.value (c.cells_order.ensures next))
