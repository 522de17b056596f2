-- The run of the plan from the sealed sheet of a sound book leaves the closed forms in the result cells, inputs as sealed and 0 in scratch (`plan_clears`).
use Rattle.std.specs.Prelude.{◌≡◌, ◌≢◌, Bool, true, length}
use Rattle.std.proofs.Common.{refl, ap, subst, ◌∙◌, le_refl, lit<, get_or-set_same, List, [], ◌∷◌, ◌++◌, map, ℕ, zero, suc, ◌+◌, ◌*◌, ◌≤◌, ◌<◌, arith, set, get_or-set_other}
use mathlib.Core.List.{map-append}
use Rattle.std.proofs.Math.Arith.{digits_lt}
use Rattle.definitions.specs.declared.Order.{Order}
use Rattle.definitions.specs.Limits.{cell_count}
use Rattle.definitions.specs.Arithmetic.{sum_to}
use Rattle.definitions.specs.Book.{Book}
use Rattle.definitions.specs.Sheet.{sealed_sheet, first_result, amount_cell, flow_cell, price_cell, hundredths_cell, presence_cell, first_scratch}
use Rattle.definitions.specs.Machine.{cell, step_of, run_of}
use Rattle.laws.specs.Tests.{Lt?, less, more, lt?}
use Rattle.laws.specs.AcceptedBook.{Sound}
use Rattle.plan.specs.Orders.{OrderOn, constant, operate, target, order_of, renamed, run}
use Rattle.plan.specs.Loops.{loop, one_of}
use Rattle.plan.specs.Names.{Family, number, Name, at, Amounts, Flows, Prices, Temporaries, family_count, rows_of, columns_of}
use Rattle.plan.proofs.LayoutFacts.{address_below, address_apart}
use Rattle.plan.proofs.Simulation.{run_length, run_other, AllNamed, run_agrees}
use Rattle.plan.specs.Entries.{all_imply}
use Rattle.plan.specs.Phased.{flat, flat_last, each_flat}
use Rattle.plan.proofs.Values.{cell_tables, accepted_amount, line_flow, closed_price, closed_hundredths, closed_presence}
use Rattle.plan.specs.Blocks.{zero_block}
use Rattle.plan.specs.Table.{scratch_count, zero_phase, work, table}
use Rattle.plan.proofs.Whole.{outputs, work_done}
use Rattle.plan.proofs.Proper.{Valid, Proper, work_each}
use Rattle.plan.specs.Plan.{from, cell_of, cell_orders, plan, Writable, WritesWell}
use Rattle.plan.proofs.PlanFacts.{from_scratch, from_end, zero_cell, numbered_writes, names_fit}
use Rattle.plan.proofs.SealedSheet.{sealed_length, sealed_zero}
use Rattle.plan.proofs.Sealed.{sealed_state, sealed_inputs}

-- what the sheet r holds when book B is cleared, by the definitions' cells
pub record HoldsClearing (B : Book) (r : List ℕ) : Type 0 where
  pub length_kept : length r ≡ cell_count
  pub inputs_kept : (c : ℕ) → c < first_result B.n B.m → cell r c ≡ cell (sealed_sheet B) c
  pub amount_cells : (i : ℕ) → i < B.n → cell r (amount_cell B.n B.m i) ≡ accepted_amount B i
  pub flow_cells : (a b : ℕ) → a < B.m → b < B.m → cell r (flow_cell B.n B.m a b) ≡ line_flow B (a * B.m + b)
  pub price_cells_lem : (p : ℕ) → p < B.m → cell r (price_cell B.n B.m p) ≡ closed_price B p
  pub hundredths_cells : (p : ℕ) → p < B.m → cell r (hundredths_cell B.n B.m p) ≡ closed_hundredths B p
  pub presence_cells : (p : ℕ) → p < B.m → cell r (presence_cell B.n B.m p) ≡ closed_presence B p
  pub scratch_zero : (c : ℕ) → first_scratch B.n B.m ≤ c → cell r c ≡ 0

run_append : (xs ys : List Order) (s : List ℕ) → run_of (xs ++ ys) s ≡ run_of ys (run_of xs s)
unfolding run_of
run_append [] ys s = refl
run_append (x ∷ xs) ys s = run_append xs ys (step_of s x)

module _ (n m : ℕ) where
  -- the sheet after orders over names
  abbrev after : List (OrderOn Name) → List ℕ → List ℕ
  after l s = run_of (map order_of (map (renamed (cell_of n m)) l)) s

  after_both : (x y : List (OrderOn Name)) (s : List ℕ) → after (x ++ y) s ≡ after y (after x s)
  after_both x y s =
      ap (λ (l : List (OrderOn ℕ)). run_of (map order_of l) s) (map-append (renamed (cell_of n m)) x y)
      ∙ ap (λ (l : List Order). run_of l s) (map-append order_of (map (renamed (cell_of n m)) x) (map (renamed (cell_of n m)) y))
      ∙ run_append (map order_of (map (renamed (cell_of n m)) x)) (map order_of (map (renamed (cell_of n m)) y)) s

  -- ---- the last phase: 0 in the first k scratch cells

  -- the sheet s with 0 in the first k scratch cells
  abbrev zeroed : ℕ → List ℕ → List ℕ
  zeroed k s = after (loop k zero_block) s

  zeroed_next : (k : ℕ) (s : List ℕ) → zeroed (suc k) s ≡ set (zeroed k s) (first_scratch n m + k) 0
  unfolding run_of
  zeroed_next k s = after_both (loop k zero_block) (zero_block k) s ∙ ap (λ (c : ℕ). set (zeroed k s) c 0) (zero_cell n m k)

  zeroed_in : (k : ℕ) (s : List ℕ) (c : ℕ) → first_scratch n m + k ≤ length s → first_scratch n m ≤ c → c < first_scratch n m + k → cell (zeroed k s) c ≡ 0
  zeroed_in zero s c f h l = omega arith
  zeroed_in (suc k) s c f h l = ap (λ (r : List ℕ). cell r c) (zeroed_next k s) ∙ go (lt? c (first_scratch n m + k)) (zeroed_in k s c (omega arith) h)
    where
      go : {t : Bool} → Lt? c (first_scratch n m + k) t → (c < first_scratch n m + k → cell (zeroed k s) c ≡ 0) → cell (set (zeroed k s) (first_scratch n m + k) 0) c ≡ 0
      go (less b) ih = get_or-set_other (zeroed k s) (first_scratch n m + k) c 0 0 (omega arith) ∙ ih b
      go (more b) ih =
          let e : c ≡ first_scratch n m + k = omega arith in
          rw e (get_or-set_same (zeroed k s) (first_scratch n m + k) 0 0 (omega (arith, run_length (map (renamed (cell_of n m)) (loop k zero_block)) s)))

  zeroed_out : (k : ℕ) (s : List ℕ) (c : ℕ) → ((j : ℕ) → j < k → c ≢ first_scratch n m + j) → cell (zeroed k s) c ≡ cell s c
  unfolding run_of
  zeroed_out zero s c h = refl
  zeroed_out (suc k) s c h =
      ap (λ (r : List ℕ). cell r c) (zeroed_next k s)
      ∙ get_or-set_other (zeroed k s) (first_scratch n m + k) c 0 0 (h k (le_refl (suc k)))
      ∙ zeroed_out k s c (λ j l. h j (omega arith))

-- ---- the work on the sheet

proper_named : (n m : ℕ) (o : OrderOn Name) → Proper n m o → AllNamed (Valid n m) o
proper_named n m (constant d k) h = h.0
proper_named n m (operate op d a b) h = (h.0, h.2, h.3)

module _ (B : Book) (sound : Sound B) where
  -- the sheet that the plan begins with
  abbrev sealed : List ℕ
  sealed = sealed_sheet B

  -- the sheet after the work
  unfoldable worked : List ℕ
  worked = after B.n B.m (flat (work B.n B.m)) sealed

  -- the sheet after the plan
  abbrev cleared_sheet : List ℕ
  cleared_sheet = run_of (plan B.n B.m) sealed

  room : first_scratch B.n B.m + scratch_count B.n B.m ≤ cell_count
  room = names_fit B.n B.m sound.bids sound.pools

  cleared_is : cleared_sheet ≡ zeroed B.n B.m (scratch_count B.n B.m) worked
  unfolding worked plan table
  cleared_is =
      ap (λ (l : List (OrderOn Name)). after B.n B.m l sealed) (flat_last (work B.n B.m) (zero_phase B.n B.m))
      ∙ after_both B.n B.m (flat (work B.n B.m)) (loop (scratch_count B.n B.m) zero_block) sealed

  worked_length : length worked ≡ cell_count
  unfolding worked
  worked_length = run_length (map (renamed (cell_of B.n B.m)) (flat (work B.n B.m))) sealed ∙ sealed_length B sound

  worked_value : (c : Name) → Valid B.n B.m c → cell worked (cell_of B.n B.m c) ≡ run (flat (work B.n B.m)) (sealed_state B sound) c
  unfolding worked from
  worked_value =
      run_agrees (Valid B.n B.m) (cell_of B.n B.m) (from B.n B.m family_count)
      (address_apart (rows_of B.n B.m) (columns_of B.n B.m) family_count) (address_below (rows_of B.n B.m) (columns_of B.n B.m) family_count)
      (flat (work B.n B.m))
      (all_imply (Proper B.n B.m) (AllNamed (Valid B.n B.m)) (proper_named B.n B.m) (flat (work B.n B.m))
      (each_flat (Proper B.n B.m) (work B.n B.m) (work_each B.n B.m (omega (arith, sound.pools)))))
      (sealed_state B sound) sealed (omega (arith, from_end B.n B.m, room, sealed_length B sound)) (λ c _. refl)

  -- a cell that the plan does not write
  untouched : (c : ℕ) → (Writable B.n B.m c → ⊥) → cell cleared_sheet c ≡ cell sealed c
  unfolding plan
  untouched c h =
      run_other c (cell_orders B.n B.m)
      (all_imply (WritesWell B.n B.m) (λ o. target o ≢ c) (λ o w e. h (subst (Writable B.n B.m) e w.0)) (cell_orders B.n B.m)
      (numbered_writes B.n B.m sound.bids sound.pools))
      sealed

  -- the results, by their names
  result_cell : (t : Family) → one_of outputs t ≡ true → number t < number Temporaries → (i j : ℕ) → i < rows_of B.n B.m t → j < columns_of B.n B.m t
      → cell cleared_sheet (cell_of B.n B.m (at t i j)) ≡ (cell_tables B).value t i j
  unfolding from
  result_cell t e l i j a b =
      let c : ℕ = cell_of B.n B.m (at t i j) in
      ap (λ (r : List ℕ). cell r c) cleared_is
      ∙ zeroed_out B.n B.m (scratch_count B.n B.m) worked c
      (λ k _. omega (arith, from_scratch B.n B.m, address_below (rows_of B.n B.m) (columns_of B.n B.m) (number Temporaries) (at t i j) (l, a, b)))
      ∙ worked_value (at t i j) (omega arith, a, b)
      ∙ work_done B sound (sealed_state B sound) (sealed_inputs B sound) t e i j a b

  at_cell : (x y v : ℕ) → x ≡ y → cell cleared_sheet x ≡ v → cell cleared_sheet y ≡ v
  at_cell x y v e h = rw (← e) h

  scratch_cell : (c : ℕ) → first_scratch B.n B.m ≤ c → cell cleared_sheet c ≡ 0
  scratch_cell c h = go (lt? c (first_scratch B.n B.m + scratch_count B.n B.m))
    where
      go : {t : Bool} → Lt? c (first_scratch B.n B.m + scratch_count B.n B.m) t → cell cleared_sheet c ≡ 0
      go (less l) =
          ap (λ (r : List ℕ). cell r c) cleared_is
          ∙ zeroed_in B.n B.m (scratch_count B.n B.m) worked c (omega (arith, room, worked_length)) h l
      go (more l) = untouched c (λ w. omega (arith, w.1)) ∙ sealed_zero B sound c (omega arith)

  cleared_length : length cleared_sheet ≡ cell_count
  unfolding plan
  cleared_length = run_length (cell_orders B.n B.m) sealed ∙ sealed_length B sound

  pub plan_clears : HoldsClearing B (run_of (plan B.n B.m) (sealed_sheet B))
  unfolding sum_to
  plan_clears = record {
    length_kept = cleared_length;
    inputs_kept = λ c h. untouched c (λ w. omega (arith, w.0));
    amount_cells = λ i a. at_cell (cell_of B.n B.m (at Amounts i 0)) (amount_cell B.n B.m i) _ (omega arith) (result_cell Amounts refl (lit< tt) i 0 a (lit< tt));
    flow_cells =
        λ a b x y. at_cell (cell_of B.n B.m (at Flows (a * B.m + b) 0)) (flow_cell B.n B.m a b) _ (omega arith)
        (result_cell Flows refl (lit< tt) (a * B.m + b) 0 (digits_lt x y) (lit< tt));
    price_cells_lem = λ p a. at_cell (cell_of B.n B.m (at Prices p 0)) (price_cell B.n B.m p) _ (omega arith) (result_cell Prices refl (lit< tt) p 0 a (lit< tt));
    hundredths_cells = λ p a. at_cell (cell_of B.n B.m (at Prices p 1)) (hundredths_cell B.n B.m p) _ (omega arith) (result_cell Prices refl (lit< tt) p 1 a (lit< tt));
    presence_cells = λ p a. at_cell (cell_of B.n B.m (at Prices p 2)) (presence_cell B.n B.m p) _ (omega arith) (result_cell Prices refl (lit< tt) p 2 a (lit< tt));
    scratch_zero = scratch_cell;
  }
