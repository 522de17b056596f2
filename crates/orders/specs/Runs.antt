-- Orders over names run on a slice, each in turn: one law for a loop of blocks (`ran_one`) and one for a block (`step_one`), on which the runner's loops rest.
-- On a sheet the plan's run is document 01's (`stepped_plan_is`).
use Rattle.std.specs.Prelude.{◌≡◌, false, ℕ, zero, suc, ◌+◌, ◌-◌, ◌≤◌, ◌<◌, List, [], ◌∷◌, ◌++◌, map, length, get_or, take}
use Rattle.std.proofs.Common.{refl, sym, ap, ◌∙◌, arith, add-one, append-nil, take-suc}
use Rattle.std.proofs.lemmas.List.{get_or_past, map-append}
use Rattle.std.proofs.Math.Seq.{take-length}
use Rattle.definitions.specs.declared.Order.{Order}
use Rattle.definitions.specs.Answers.{Refusal, none, unless, is_none}
use Rattle.definitions.specs.Calls.{counts_refusal}
use Rattle.definitions.specs.Machine.{IsSheet, run_of}
use Rattle.definitions.specs.Plan.{Plan}
use Rattle.laws.specs.Refusal.{unless_refused}
use Rattle.laws.specs.Sizes.{counted}
use Rattle.machine.specs.Step.{stepped, stepped_all, stepped_append}
use Rattle.machine.specs.Run.{stepped_all_is, stepped_all_length}
use Rattle.plan.specs.Orders.{OrderOn, constant, order_of, renamed}
use Rattle.plan.specs.Names.{Name, ZeroCell}
use Rattle.plan.specs.Loops.{loop}
use Rattle.plan.specs.Phased.{no_part, flat, part_at, stretch, row_of, row_loop_lem}
use Rattle.plan.specs.Table.{Phase, table}
use Rattle.plan.specs.Plan.{cell_of, plan}
use Rattle.plan.proofs.PlanOrders.{plan_orders}
use Rattle.orders.specs.Limits.{part_limit}
use Rattle.orders.specs.Named.{made, numbered_of}

-- ---- a plan's run on any slice

-- the slice after the plan's orders, each in turn; as it was for refused counts
unfoldable pub stepped_plan : Plan → (n m : ℕ) → List ℕ → List ℕ
stepped_plan P n m s = unless (counts_refusal n m) (stepped_all (P n m) s) s

module _ (P : Plan) (n m : ℕ) (s : List ℕ) where
  pub plan_stepped : counts_refusal n m ≡ none → stepped_plan P n m s ≡ stepped_all (P n m) s
  unfolding stepped_plan
  plan_stepped e = ap (λ (r : Refusal). unless r (stepped_all (P n m) s) s) e

  pub plan_not_stepped : is_none (counts_refusal n m) ≡ false → stepped_plan P n m s ≡ s
  unfolding stepped_plan
  plan_not_stepped e = unless_refused (counts_refusal n m) (stepped_all (P n m) s) s e

pub stepped_plan_is : (n m : ℕ) (s : List ℕ) → counts_refusal n m ≡ none → IsSheet s → stepped_plan plan n m s ≡ run_of (plan n m) s
stepped_plan_is n m s e h =
    let c = counted n m e in
    plan_stepped plan n m s e ∙ stepped_all_is (plan n m) s h (plan_orders n m c.bids c.pools.most)

module _ (n m : ℕ) where
  -- ---- orders over names on a slice

  -- the slice after orders over names
  unfoldable pub ran_of : List (OrderOn Name) → List ℕ → List ℕ
  ran_of l s = stepped_all (map order_of (map (renamed (cell_of n m)) l)) s

  pub ran_plan : (s : List ℕ) → ran_of (flat (table n m)) s ≡ stepped_all (plan n m) s
  unfolding ran_of plan
  ran_plan s = refl

  pub ran_length : (l : List (OrderOn Name)) (s : List ℕ) → length (ran_of l s) ≡ length s
  unfolding ran_of
  ran_length l s = stepped_all_length (map order_of (map (renamed (cell_of n m)) l)) s

  ran_append : (x y : List (OrderOn Name)) (s : List ℕ) → ran_of (x ++ y) s ≡ ran_of y (ran_of x s)
  unfolding ran_of
  ran_append x y s =
      ap (λ (l : List (OrderOn ℕ)). stepped_all (map order_of l) s) (map-append (renamed (cell_of n m)) x y)
      ∙ ap (λ (l : List Order). stepped_all l s) (map-append order_of (map (renamed (cell_of n m)) x) (map (renamed (cell_of n m)) y))
      ∙ stepped_append (map order_of (map (renamed (cell_of n m)) x)) (map order_of (map (renamed (cell_of n m)) y)) s

  -- ---- a loop of blocks, one more run

  pub ran_none : (s : List ℕ) → s ≡ ran_of [] s
  unfolding ran_of stepped_all
  ran_none s = refl

  pub ran_one : (f : ℕ → List (OrderOn Name)) (start s t : List ℕ) (count : ℕ) → s ≡ ran_of (loop count f) start → t ≡ ran_of (f count) s
      → t ≡ ran_of (loop (count + 1) f) start
  ran_one f start s t count h e =
      e ∙ ap (ran_of (f count)) h ∙ sym (ran_append (loop count f) (f count) start) ∙ ap (λ (c : ℕ). ran_of (loop c f) start) (sym (add-one count))

  -- ---- a block, one more of its orders run

  pub step_one : (block : List (OrderOn Name)) (start s t : List ℕ) (count : ℕ) → s ≡ ran_of (take count block) start → count < length block
      → t ≡ stepped s (numbered_of n m (made block count)) → t ≡ ran_of (take (count + 1) block) start
  unfolding ran_of stepped_all numbered_of made
  step_one block start s t count h l g =
      let o : OrderOn Name = get_or block count (constant ZeroCell 0) in
      g
      ∙ ap (λ (r : List ℕ). stepped r (order_of (renamed (cell_of n m) o))) h
      ∙ sym (ran_append (take count block) (o ∷ []) start)
      ∙ ap (λ (x : List (OrderOn Name)). ran_of x start) (sym (take-suc block count (constant ZeroCell 0) l))
      ∙ ap (λ (c : ℕ). ran_of (take c block) start) (sym (add-one count))

  -- its whole run
  pub block_ran : (block : List (OrderOn Name)) (start s : List ℕ) (count : ℕ) → s ≡ ran_of (take count block) start → count ≡ length block → s ≡ ran_of block start
  block_ran block start s count h e =
      h ∙ ap (λ (c : ℕ). ran_of (take c block) start) e ∙ ap (λ (x : List (OrderOn Name)). ran_of x start) (take-length block)

-- ---- a row as a loop over four parts, of which the last may be empty

longer : {A : Type 0} (f : ℕ → List A) (k d : ℕ) → ((q : ℕ) → k ≤ q → f q ≡ []) → loop (k + d) f ≡ loop k f
longer f k zero h = ap (λ (c : ℕ). loop c f) (let e : k + 0 ≡ k = omega arith in e)
longer f k (suc d) h =
    ap (λ (c : ℕ). loop c f) (let e : k + suc d ≡ suc (k + d) = omega arith in e)
    ∙ rw (longer f k d h, h (k + d) (omega arith)) (append-nil (loop k f))

pub row_of_four : (p : Phase) (i : ℕ) → length p.parts ≤ part_limit → loop part_limit (λ q. stretch i (part_at p q)) ≡ row_of p i
row_of_four p i h =
    let e : part_limit ≡ length p.parts + (part_limit - length p.parts) = omega arith in
    ap (λ (c : ℕ). loop c (λ q. stretch i (part_at p q))) e
    ∙ longer (λ q. stretch i (part_at p q)) (length p.parts) (part_limit - length p.parts) (λ q l. ap (stretch i) (get_or_past p.parts q no_part l))
    ∙ sym (row_loop_lem p i)
