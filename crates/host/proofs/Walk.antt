-- The C host's walk, as README's loop makes it: it calls `plan_bytes`, or `column_plan_bytes`, from position 0 on, reads the three numbers from the 24
-- bytes, and stops at the first call that gives no orders. It is the writer's walk (`same_walk`), so it stops (`host_stops`), and when it has
-- (`host_walk`), or has come to the total (`host_walk_to_total`), it has sent exactly that plan's bytes, which the runner accepts on every sheet and runs
-- as that plan.
use Rattle.std.proofs.Common.{refl, ap, sym, ap₂, ◌∙◌, subst, arith, cond, List, [], ◌∷◌, ℕ, ◌≤◌, ◌<◌, ◌≡◌, true, length}
use Rattle.std.proofs.lemmas.List.{length-map}
use Rattle.definitions.specs.Answers.{none, number_of}
use Rattle.definitions.specs.Calls.{counts_refusal}
use Rattle.definitions.specs.Machine.{AllWellFormed}
use Rattle.definitions.specs.Plan.{Plan, Written, write_refusal, write_counts, write_slice, total_slice, bytes_refusal, bytes_slice, counts_slice, number_size}
use Rattle.columns.specs.declared.Numbering.{Numbering}
use Rattle.columns.specs.Plans.{plan_by, plan_by_length}
use Rattle.plan.specs.Plan.{plan}
use Rattle.walk.specs.Walk.{Reply, goes_on, Walk, sent_before, stop_at, after_call, walk, reply_of, writer_reply, Roomy}
use Rattle.orders.specs.Calls.{counts_accepted, slice_accepted}
use Rattle.walk.specs.Sequence.{PlanRun}
use Rattle.walk.proofs.Sequence.{call_accepted, moves_within, none_only_at_end, nothing_left, slice_left, walk_accepted, stops_at_end, enough_slices, walk_stops, plan_sent, plan_run_lem, plan_by_orders}
use Rattle.host.specs.Calls.{total_passes, bytes_pass, bytes_given}
use Rattle.host.specs.Numbers.{held, counts_held}
use Rattle.host.proofs.ReadBack.{total_read_back, counts_read_back}
use Rattle.host.specs.Walk.{Lent, RightLengths, AllRight, host_reply, WholeWalk, byte_slices}

slices_roomy : (lents : List Lent) → AllRight lents → Roomy (byte_slices lents)
slices_roomy [] right = tt
slices_roomy (lent ∷ lents) right = (right.0.room, slices_roomy lents right.1)

module _ (by : Numbering) (n m : ℕ) (counts : counts_refusal n m ≡ none) where
  abbrev P : Plan
  P = plan_by by plan

  machine : AllWellFormed (P n m)
  machine = plan_by_orders by n m counts

  as_long : length (P n m) ≡ length (plan n m)
  as_long = plan_by_length plan n m by

  module _ (at : ℕ) (lent : Lent) (within : at ≤ length (plan_by by plan n m)) (right : RightLengths lent) where
    passes : bytes_refusal P n m at (length lent.bytes) (length lent.out) ≡ none
    passes = bytes_pass P n m at (length lent.bytes) (length lent.out) counts right.numbers within right.room

    writing : write_refusal P n m at (length lent.bytes) ≡ none
    writing = call_accepted P n m counts machine at (length lent.bytes) within right.room

    same_counts : counts_held (counts_slice P n m at (length lent.bytes) lent.out) ≡ write_counts P n m at (length lent.bytes)
    same_counts = counts_read_back by n m at lent.bytes lent.out passes ∙ sym (counts_accepted P n m at (length lent.bytes) writing)

    same_slice : bytes_slice P n m at lent.bytes (length lent.out) ≡ write_slice P n m at lent.bytes
    same_slice = bytes_given P n m at lent.bytes lent.out passes ∙ sym (slice_accepted P n m at lent.bytes writing)

    same_reply : host_reply P n m at lent ≡ writer_reply P n m at lent.bytes
    same_reply =
        ap₂ (λ (number : ℕ) (given : Written). reply_of number given (bytes_slice P n m at lent.bytes (length lent.out)))
        (ap number_of (passes ∙ sym writing)) same_counts
        ∙ ap (reply_of (number_of (write_refusal P n m at (length lent.bytes))) (write_counts P n m at (length lent.bytes))) same_slice

    -- a call at a position of the plan gives no orders at its end only
    pub host_none_only_at_end : (host_reply (plan_by by plan) n m at lent).orders ≡ 0 → at ≡ length (plan_by by plan n m)
    host_none_only_at_end e =
        none_only_at_end P n m counts machine at (length lent.bytes) within right.room (ap (λ (r : Reply). r.orders) (sym same_reply) ∙ e)

  pub same_walk : (lents : List Lent) (at : ℕ) → AllRight lents → at ≤ length (plan_by by plan n m)
      → walk (host_reply (plan_by by plan) n m) lents at ≡ walk (writer_reply (plan_by by plan) n m) (byte_slices lents) at
  unfolding walk
  same_walk [] at right within = refl
  same_walk (lent ∷ lents) at right within =
      let reply : Reply = writer_reply P n m at lent.bytes in
      ap (λ (r : Reply). after_call at r (walk (host_reply P n m) lents)) (same_reply at lent within right.0)
      ∙ ap (λ (later : Walk). cond (goes_on reply) (sent_before reply.bytes later) (stop_at at reply))
      (same_walk lents reply.next right.1 (moves_within P n m counts machine at (length lent.bytes) within right.0.room))

  -- ---- the whole walk

  -- the total is that of both plans
  total_held : (out : List ℕ) → length out ≡ number_size → held (total_slice plan n m out) ≡ length (P n m)
  total_held out stated = total_read_back n m out (total_passes n m (length out) counts stated) ∙ sym as_long

  module _ (lents : List Lent) (right : AllRight lents) where
    abbrev hosts : Walk
    hosts = walk (host_reply P n m) lents 0

    same : hosts ≡ walk (writer_reply P n m) (byte_slices lents) 0
    same = same_walk lents 0 right (omega arith)

    roomy : Roomy (byte_slices lents)
    roomy = slices_roomy lents right

    as_many : length (byte_slices lents) ≡ length lents
    as_many = length-map lents (λ (lent : Lent). lent.bytes)

    whole : hosts.position ≡ length (P n m) → WholeWalk by n m hosts
    whole end =
        let there : (walk (writer_reply P n m) (byte_slices lents) 0).position ≡ length (P n m) = ap (λ (w : Walk). w.position) (sym same) ∙ end in
        record {
          accepted = ap (λ (w : Walk). w.refusal) same ∙ walk_accepted P n m counts machine (byte_slices lents) roomy;
          sent = ap (λ (w : Walk). w.sent) same ∙ plan_sent P n m counts machine (byte_slices lents) roomy there;
          runs = λ sheet is. subst (λ (w : Walk). PlanRun (P n m) sheet w.sent) (sym same) (plan_run_lem P n m counts machine (byte_slices lents) roomy there sheet is);
          total = λ out stated. end ∙ sym (total_held out stated);
          nothing_more = λ lent fits. rw end (same_reply (length (P n m)) lent (omega arith) fits ∙ nothing_left P n m counts machine lent.bytes fits.room);
          slice_kept = λ lent fits. rw end (same_slice (length (P n m)) lent (omega arith) fits ∙ slice_left P n m counts machine lent.bytes fits.room);
        }

    -- a walk that stopped
    pub host_walk : (walk (host_reply (plan_by by plan) n m) lents 0).stopped ≡ true → WholeWalk by n m (walk (host_reply (plan_by by plan) n m) lents 0)
    host_walk stopped =
        let there = stops_at_end P n m counts machine (byte_slices lents) roomy (ap (λ (w : Walk). w.stopped) (sym same) ∙ stopped) in
        whole (ap (λ (w : Walk). w.position) same ∙ there)

    -- a walk that has come to the total
    pub host_walk_to_total : (out : List ℕ) → length out ≡ number_size → (walk (host_reply (plan_by by plan) n m) lents 0).position ≡ held (total_slice plan n m out)
        → WholeWalk by n m (walk (host_reply (plan_by by plan) n m) lents 0)
    host_walk_to_total out stated end = whole (end ∙ total_held out stated)

    -- a walk with a call for each order
    pub host_walk_in_time : length (plan_by by plan n m) ≤ length lents → WholeWalk by n m (walk (host_reply (plan_by by plan) n m) lents 0)
    host_walk_in_time enough =
        let there = enough_slices P n m counts machine (byte_slices lents) roomy (omega (arith, as_many)) in
        whole (ap (λ (w : Walk). w.position) same ∙ there)

    -- and with one more call the walk stops
    pub host_stops : length (plan_by by plan n m) < length lents → (walk (host_reply (plan_by by plan) n m) lents 0).stopped ≡ true
    host_stops enough = ap (λ (w : Walk). w.stopped) same ∙ walk_stops P n m counts machine (byte_slices lents) roomy (omega (arith, as_many))
