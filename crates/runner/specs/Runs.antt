-- The runner's refusals in turn, what an accepted run says of its sheet (`ran_on_sheet`) and leaves (`run_leaves_sheet`), and that the bytes of a list of
-- orders run as that list (`orders_bytes_run`).
use Rattle.std.specs.Prelude.{ℕ, ◌≡◌, true, false, List, eqb, length, refl}
use Rattle.std.proofs.Common.{sym, ap, ◌∙◌, subst, eq-eqb, ne_eqb, eqb-true}
use Rattle.definitions.specs.declared.Order.{Order}
use Rattle.definitions.specs.Limits.{cell_count}
use Rattle.definitions.specs.Answers.{Refusal, none, refuse, is_none, first}
use Rattle.definitions.specs.Machine.{IsSheet, run_of, AllWellFormed}
use Rattle.definitions.specs.Bytes.{Parsed, orders_bytes, parse}
use Rattle.definitions.specs.Calls.{cells_refusal, length_refusal, run_refusal, run_sheet, run_count}
use Rattle.laws.specs.Refusal.{test_passed, first_refused, first_none, first_left, first_right, unless_none, unless_refused}
use Rattle.judging.specs.Cells.{accepted_sheet, sheet_accepted}
use Rattle.codec.specs.PlanBytes.{orders_read_back, parsed_well_formed}
use Rattle.machine.specs.Run.{run_sheet_lem}

module _ (sheet bytes : List ℕ) where
  -- ---- one refusal after another

  pub refused_length : (length sheet ≡ cell_count → ⊥) → run_refusal sheet bytes ≡ refuse 3 0
  unfolding run_refusal
  refused_length h = rw (ne_eqb (length sheet) cell_count h) refl

  pub refused_cells : length sheet ≡ cell_count → is_none (cells_refusal sheet) ≡ false → run_refusal sheet bytes ≡ cells_refusal sheet
  unfolding run_refusal
  refused_cells h e = rw (eq-eqb (length sheet) cell_count h) (first_refused (cells_refusal sheet) (parse bytes).refusal e)

  pub refused_bytes : length sheet ≡ cell_count → is_none (cells_refusal sheet) ≡ true → run_refusal sheet bytes ≡ (parse bytes).refusal
  unfolding run_refusal
  refused_bytes h e = rw (eq-eqb (length sheet) cell_count h) (first_none (cells_refusal sheet) (parse bytes).refusal e)

  -- ---- what the run leaves and gives

  pub sheet_run : is_none (run_refusal sheet bytes) ≡ true → run_sheet sheet bytes ≡ run_of (parse bytes).orders sheet
  unfolding run_sheet
  sheet_run e = unless_none (run_refusal sheet bytes) (run_of (parse bytes).orders sheet) sheet e

  pub sheet_refused : is_none (run_refusal sheet bytes) ≡ false → run_sheet sheet bytes ≡ sheet
  unfolding run_sheet
  sheet_refused e = unless_refused (run_refusal sheet bytes) (run_of (parse bytes).orders sheet) sheet e

  pub count_accepted : is_none (run_refusal sheet bytes) ≡ true → run_count sheet bytes ≡ length (parse bytes).orders
  unfolding run_count
  count_accepted e = unless_none (run_refusal sheet bytes) (length (parse bytes).orders) 0 e

  pub count_refused : is_none (run_refusal sheet bytes) ≡ false → run_count sheet bytes ≡ 0
  unfolding run_count
  count_refused e = unless_refused (run_refusal sheet bytes) (length (parse bytes).orders) 0 e

-- ---- a sheet is what the length and the cells accept

module _ (sheet : List ℕ) where
  pub ran_on_sheet : (bytes : List ℕ) → run_refusal sheet bytes ≡ none → IsSheet sheet
  unfolding run_refusal
  ran_on_sheet bytes e =
      let rest : Refusal = first (cells_refusal sheet) (parse bytes).refusal in
      let stated : Refusal = length_refusal (eqb (length sheet) cell_count) in
      accepted_sheet sheet (eqb-true (length sheet) cell_count (test_passed _ 3 0 (first_left stated rest e)))
      (first_left (cells_refusal sheet) (parse bytes).refusal (first_right stated rest e))

  -- of a sheet, the bytes alone are refused
  pub sheet_refusal : (bytes : List ℕ) → IsSheet sheet → run_refusal sheet bytes ≡ (parse bytes).refusal
  sheet_refusal bytes h = refused_bytes sheet bytes h.cells (ap is_none (sheet_accepted sheet h))

-- an accepted run ran on a sheet and leaves a sheet
pub run_leaves_sheet : (sheet bytes : List ℕ) → run_refusal sheet bytes ≡ none → IsSheet (run_sheet sheet bytes)
run_leaves_sheet sheet bytes e =
    subst IsSheet (sym (sheet_run sheet bytes (ap is_none e)))
    (run_sheet_lem (parse bytes).orders sheet (ran_on_sheet sheet bytes e) (parsed_well_formed bytes))

-- ---- the bytes of a list of orders

-- the runner accepts the bytes of some orders, leaves their run and counts them
pub record RunsAs (sheet : List ℕ) (os : List Order) : Type 0 where
  pub refusal : run_refusal sheet (orders_bytes os) ≡ none
  pub cells : run_sheet sheet (orders_bytes os) ≡ run_of os sheet
  pub count : run_count sheet (orders_bytes os) ≡ length os

pub orders_bytes_run : (sheet : List ℕ) (os : List Order) → IsSheet sheet → AllWellFormed os → RunsAs sheet os
orders_bytes_run sheet os h w =
    let p = orders_read_back os w in
    let e : run_refusal sheet (orders_bytes os) ≡ none = sheet_refusal sheet (orders_bytes os) h ∙ ap (λ (x : Parsed). x.refusal) p in
    record {
      refusal = e;
      cells = sheet_run sheet (orders_bytes os) (ap is_none e) ∙ ap (λ (x : Parsed). run_of x.orders sheet) p;
      count = count_accepted sheet (orders_bytes os) (ap is_none e) ∙ ap (λ (x : Parsed). length x.orders) p;
    }
