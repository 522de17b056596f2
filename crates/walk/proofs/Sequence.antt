-- Calls of the writer one after another, with any slices of 8 bytes or more: a call gives no orders at the end of the plan (`nothing_left`) and only
-- there (`none_only_at_end`), so a walk stops at the end (`stops_at_end`) and does stop (`walk_stops`); a walk that has come to the end has sent
-- exactly the plan's bytes (`plan_sent`), which the runner accepts and runs as the plan (`plan_run_lem`). All this is said of any plan whose orders are
-- the machine's at the counts of the walk; the plan is one, by rows and by columns (`plan_by_orders`).
use Rattle.std.proofs.Common.{ℕ, zero, suc, ◌+◌, ◌*◌, ◌≤◌, ◌<◌, refl, sym, ap, ap₂, ◌∙◌, subst, true≢false, add-zero, take-append-drop, drop-drop, le-ltb, ltb-true, ltb-false, List, [], ◌∷◌, ◌++◌, append-nil, append_assoc, arith, length, take, drop, length-drop, take_at, ◌≡◌, Bool, true, false, cond, ltb, get_or}
use Rattle.std.proofs.Math.Seq.{drop-length}
use Rattle.definitions.specs.declared.Order.{Order}
use Rattle.definitions.specs.declared.Order.TheVariants.{Constant}
use Rattle.definitions.specs.Answers.{Refusal, none, number_of, first}
use Rattle.definitions.specs.Bytes.{orders_bytes}
use Rattle.definitions.specs.Calls.{counts_refusal}
use Rattle.definitions.specs.Machine.{IsSheet, WellFormed, AllWellFormed}
use Rattle.definitions.specs.Plan as plans
use Rattle.definitions.specs.Plan.{Plan, fitting, room_refusal, write_refusal, over, orders_written, bytes_written, written_counts, write_counts, write_slice, longest_order}
use Rattle.laws.specs.Tests.{Lt?, less, more, lt?}
use Rattle.laws.specs.Sizes.{counted}
use Rattle.codec.specs.OrderBytes.{at_most_eight}
use Rattle.runner.specs.Runs.{orders_bytes_run, run_leaves_sheet}
use Rattle.columns.specs.declared.Numbering.{Numbering}
use Rattle.columns.specs.Plans.{plan_by, plan_by_well_formed}
use Rattle.plan.specs.Plan.{plan}
use Rattle.plan.proofs.PlanOrders.{plan_orders}
use Rattle.plan.proofs.Asking.{within_total}
use Rattle.codec.specs.Fitting.{bytes_of_both, bytes_of_none, bytes_in_parts, bytes_at_most, fits_none, fits_at_most, some_fits}
use Rattle.orders.specs.Calls.{counts_accepted, slice_accepted}
use Rattle.walk.specs.Walk.{Reply, goes_on, Walk, sent_before, stop_at, after_call, walk, reply_of, writer_reply, Roomy}
use Rattle.walk.specs.Sequence.{PlanRun}

-- each of the machine's orders is one
well_formed_lem : (os : List Order) → AllWellFormed os → (at : ℕ) → at < length os → WellFormed (get_or os at (Constant 0 0))
well_formed_lem [] w at h = absurd (omega arith)
well_formed_lem (o ∷ os) w zero h = w.0
well_formed_lem (o ∷ os) w (suc at) h = well_formed_lem os w.1 at (omega arith)

module _ (P : Plan) (n m : ℕ) (counts : counts_refusal n m ≡ none) (machine : AllWellFormed (P n m)) where
  -- ---- one call

  -- no more orders than the plan has from the position on
  pub orders_within : (at room : ℕ) → at ≤ length (P n m) → at + orders_written P n m at room ≤ length (P n m)
  unfolding orders_written
  orders_within at room within = omega (arith, fits_at_most (drop at (P n m)) room, length-drop at (P n m))

  -- no more bytes than 8 for each order of the plan
  pub bytes_within : (at room : ℕ) → length (bytes_written P n m at room) ≤ longest_order * length (P n m)
  unfolding bytes_written
  bytes_within at room =
      let k : ℕ = orders_written P n m at room in
      let rest : List Order = drop at (P n m) in
      omega (
        arith,
        bytes_at_most (P n m) machine,
        bytes_in_parts at (P n m),
        bytes_in_parts k rest,
      )

  module _ (at room : ℕ) (within : at ≤ length (P n m)) (roomy : longest_order ≤ room) where
    pub call_accepted : write_refusal P n m at room ≡ none
    unfolding write_refusal
    call_accepted = ap (λ (r : Refusal). first r (room_refusal room)) (within_total P n m at counts within) ∙ simp (le-ltb _ _ roomy)

    gives_orders : (write_counts P n m at room).orders ≡ orders_written P n m at room
    unfolding written_counts
    gives_orders = ap (λ (w : plans.Written). w.orders) (counts_accepted P n m at room call_accepted)

    moves : (write_counts P n m at room).next ≡ at + (write_counts P n m at room).orders
    unfolding written_counts
    moves =
        let e = counts_accepted P n m at room call_accepted in
        ap (λ (w : plans.Written). w.next) e ∙ ap (λ (w : plans.Written). at + w.orders) (sym e)

    -- not past the end
    pub moves_within : (write_counts P n m at room).next ≤ length (P n m)
    moves_within = omega (arith, moves, gives_orders, orders_within at room within)

    -- no orders are given only at the end
    pub none_only_at_end : (write_counts P n m at room).orders ≡ 0 → at ≡ length (P n m)
    unfolding orders_written
    none_only_at_end e = go (lt? at (length (P n m)))
      where
        go : {t : Bool} → Lt? at (length (P n m)) t → at ≡ length (P n m)
        go (less h) =
            let short = at_most_eight (get_or (P n m) at (Constant 0 0)) (well_formed_lem (P n m) machine at h) in
            absurd (let x : ⊥ = omega (arith, gives_orders, some_fits (P n m) at (Constant 0 0) room h short roomy) in x)
        go (more h) = omega arith

  module _ (at : ℕ) (out : List ℕ) (within : at ≤ length (P n m)) (roomy : longest_order ≤ length out) where
    -- the bytes written are those given
    gives : (writer_reply P n m at out).bytes ≡ bytes_written P n m at (length out)
    unfolding written_counts
    gives =
        let e = call_accepted at (length out) within roomy in
        let bytes : List ℕ = bytes_written P n m at (length out) in
        ap₂ take (ap (λ (w : plans.Written). w.bytes) (counts_accepted P n m at (length out) e)) (slice_accepted P n m at out e)
        ∙ take_at bytes (drop (length bytes) out) (length bytes) refl

    -- with those of the orders from the next position on, they are the bytes from this one on
    gives_next : (writer_reply P n m at out).bytes ++ orders_bytes (drop (writer_reply P n m at out).next (P n m)) ≡ orders_bytes (drop at (P n m))
    unfolding bytes_written
    gives_next =
        let k : ℕ = orders_written P n m at (length out) in
        let next : (writer_reply P n m at out).next ≡ at + k =
        omega (arith, moves at (length out) within roomy, gives_orders at (length out) within roomy) in
        ap₂ (λ (xs : List ℕ) (next : ℕ). xs ++ orders_bytes (drop next (P n m))) gives next
        ∙ ap (λ (os : List Order). orders_bytes (take k (drop at (P n m))) ++ orders_bytes os) (sym (drop-drop k at (P n m)))
        ∙ sym (bytes_of_both (take k (drop at (P n m))) (drop k (drop at (P n m))))
        ∙ ap orders_bytes (take-append-drop k (drop at (P n m)))

    -- the host goes on exactly if orders are given
    goes_on_lem : goes_on (writer_reply P n m at out) ≡ ltb 0 (writer_reply P n m at out).orders
    goes_on_lem =
        ap (λ (r : Refusal). goes_on (reply_of (number_of r) (write_counts P n m at (length out)) (write_slice P n m at out)))
        (call_accepted at (length out) within roomy)

  -- ---- a call at the end

  module _ (out : List ℕ) (roomy : longest_order ≤ length out) where
    abbrev end : ℕ
    end = length (P n m)

    no_orders_lem : orders_written P n m end (length out) ≡ 0
    unfolding orders_written
    no_orders_lem = ap (λ (os : List Order). fitting os (length out)) (drop-length (P n m)) ∙ fits_none (length out)

    no_bytes : bytes_written P n m end (length out) ≡ []
    unfolding bytes_written
    no_bytes = ap (λ (k : ℕ). orders_bytes (take k (drop end (P n m)))) no_orders_lem ∙ bytes_of_none

    -- it gives no bytes and no orders, and the position stays
    pub nothing_left : writer_reply P n m (length (P n m)) out ≡ record { refusal = 0; bytes = []; orders = 0; next = length (P n m) }
    nothing_left =
        let within : end ≤ length (P n m) = omega arith in
        let bytes = gives end out within roomy ∙ no_bytes in
        let orders = gives_orders end (length out) within roomy ∙ no_orders_lem in
        let next = moves end (length out) within roomy ∙ ap (λ (k : ℕ). end + k) orders ∙ add-zero end in
        rw (call_accepted end (length out) within roomy, bytes, orders, next) refl

    -- and the slice holds what it held
    pub slice_left : write_slice P n m (length (P n m)) out ≡ out
    slice_left = slice_accepted P n m end out (call_accepted end (length out) (omega arith) roomy) ∙ ap (λ (bytes : List ℕ). over bytes out) no_bytes

  -- ---- the calls one after another

  -- what holds of a walk from a position with k slices
  record Walked (at k : ℕ) (w : Walk) : Type 0 where
    within : w.position ≤ length (P n m)
    accepted : w.refusal ≡ 0
    -- what was sent, and the bytes of the orders that are left
    left : w.sent ++ orders_bytes (drop w.position (P n m)) ≡ orders_bytes (drop at (P n m))
    ends : w.stopped ≡ true → w.position ≡ length (P n m)
    -- each call before the stop moves on by one order at least
    on : w.stopped ≡ false → at + k ≤ w.position

  -- one call, and a walk from the next position
  after_call_lem : (at : ℕ) (out : List ℕ) (k : ℕ) (later : Walk) → at ≤ length (P n m) → longest_order ≤ length out
      → Walked (writer_reply P n m at out).next k later → Walked at (suc k) (after_call at (writer_reply P n m at out) (λ next. later))
  after_call_lem at out k later within roomy rest = go (goes_on (writer_reply P n m at out)) refl
    where
      go : (t : Bool) → goes_on (writer_reply P n m at out) ≡ t
          → Walked at (suc k) (cond t (sent_before (writer_reply P n m at out).bytes later) (stop_at at (writer_reply P n m at out)))
      go true e =
          let reply : Reply = writer_reply P n m at out in
          let some : 0 < reply.orders = ltb-true 0 reply.orders (sym (goes_on_lem at out within roomy) ∙ e) in
          record {
            within = rest.within;
            accepted = rest.accepted;
            left =
                append_assoc reply.bytes later.sent (orders_bytes (drop later.position (P n m)))
                ∙ ap (λ (xs : List ℕ). reply.bytes ++ xs) rest.left
                ∙ gives_next at out within roomy;
            ends = rest.ends;
            on = λ f. omega (arith, rest.on f, moves at (length out) within roomy);
          }
      go false e =
          let given : ℕ = (writer_reply P n m at out).orders in
          let few : given ≤ 0 = ltb-false 0 given (sym (goes_on_lem at out within roomy) ∙ e) in
          record {
            within = within;
            accepted = ap number_of (call_accepted at (length out) within roomy);
            left = refl;
            ends = λ f. none_only_at_end at (length out) within roomy (omega arith);
            on = λ f. absurd (true≢false f);
          }

  walked : (outs : List (List ℕ)) (at : ℕ) → Roomy outs → at ≤ length (P n m) → Walked at (length outs) (walk (writer_reply P n m) outs at)
  unfolding walk
  walked [] at roomy within =
      record { within = within; accepted = refl; left = refl; ends = λ e. absurd (true≢false (sym e)); on = λ e. omega arith }
  walked (out ∷ outs) at roomy within =
      let next : ℕ = (writer_reply P n m at out).next in
      after_call_lem at out (length outs) (walk (writer_reply P n m) outs next) within roomy.0
      (walked outs next roomy.1 (moves_within at (length out) within roomy.0))

  module _ (outs : List (List ℕ)) (roomy : Roomy outs) where
    abbrev whole : Walk
    whole = walk (writer_reply P n m) outs 0

    all : Walked 0 (length outs) whole
    all = walked outs 0 roomy (omega arith)

    -- no call of the walk is refused
    pub walk_accepted : (walk (writer_reply P n m) outs 0).refusal ≡ 0
    walk_accepted = all.accepted

    -- the walk stops at the end
    pub stops_at_end : (walk (writer_reply P n m) outs 0).stopped ≡ true → (walk (writer_reply P n m) outs 0).position ≡ length (P n m)
    stops_at_end = all.ends

    -- as many slices as the plan has orders are enough to come there
    pub enough_slices : length (P n m) ≤ length outs → (walk (writer_reply P n m) outs 0).position ≡ length (P n m)
    enough_slices enough = go whole.stopped refl
      where
        go : (t : Bool) → whole.stopped ≡ t → whole.position ≡ length (P n m)
        go true e = all.ends e
        go false e = omega (arith, all.on e, all.within)

    -- and with one more the walk has stopped
    pub walk_stops : length (P n m) < length outs → (walk (writer_reply P n m) outs 0).stopped ≡ true
    walk_stops enough = go whole.stopped refl
      where
        go : (t : Bool) → whole.stopped ≡ t → whole.stopped ≡ true
        go true e = e
        go false e = absurd (let x : ⊥ = omega (arith, all.on e, all.within) in x)

    -- ---- the plan's bytes, and the runner

    module _ (end : (walk (writer_reply P n m) outs 0).position ≡ length (P n m)) where
      pub plan_sent : (walk (writer_reply P n m) outs 0).sent ≡ orders_bytes (P n m)
      plan_sent =
          sym (append-nil whole.sent)
          ∙ ap (λ (xs : List ℕ). whole.sent ++ xs) (sym none_left)
          ∙ all.left
        where
          none_left : orders_bytes (drop whole.position (P n m)) ≡ []
          none_left = ap (λ (at : ℕ). orders_bytes (drop at (P n m))) end ∙ ap orders_bytes (drop-length (P n m)) ∙ bytes_of_none

      pub plan_run_lem : (sheet : List ℕ) → IsSheet sheet → PlanRun (P n m) sheet (walk (writer_reply P n m) outs 0).sent
      plan_run_lem sheet is =
          let run = orders_bytes_run sheet (P n m) is machine in
          subst (PlanRun (P n m) sheet) (sym plan_sent)
          (record { accepted = run.refusal; leaves = run.cells; is_sheet = run_leaves_sheet sheet _ run.refusal; count = run.count })

-- ---- the plan by rows and by columns

pub plan_by_orders : (by : Numbering) (n m : ℕ) → counts_refusal n m ≡ none → AllWellFormed (plan_by by plan n m)
plan_by_orders by n m counts =
    let limits = counted n m counts in
    plan_by_well_formed by plan n m (omega arith) (plan_orders n m limits.bids limits.pools.most)
