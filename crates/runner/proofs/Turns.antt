-- One turn of reading by what `read_order` answers, and what a run keeps from turn to turn.
use Rattle.std.proofs.Common.{ℕ, ◌+◌, ◌<◌, ◌≡◌, sym, ap, ◌∙◌, subst, List, arith, length}
use Rattle.definitions.specs.declared.Order.{Order}
use Rattle.definitions.specs.Answers.{Refusal}
use Rattle.definitions.specs.Machine.{IsSheet, WellFormed, AllWellFormed, step_of, run_of}
use Rattle.definitions.specs.Bytes.{order_at, Parsed, no_orders, one_more}
use Rattle.codec.specs.Answer.{given, refused, answer_at, answer_found, answer_refused}
use Rattle.codec.specs.OrderShortest.{OrderRead, order_read}
use Rattle.codec.specs.PlanBytes.{parse_rest, rest_order, rest_refused}
use Rattle.machine.specs.Run.{step_sheet}

-- ---- one turn, at an offset within the bytes

module _ (s : List ℕ) (at : ℕ) (h : at < length s) where
  pub turn_refused : (x : Refusal) → refused x ≡ answer_at at (order_at s at) → parse_rest s at ≡ no_orders x
  turn_refused x e =
      let f = answer_refused at (order_at s at) x e in
      rest_refused s at f.number h f.was ∙ ap no_orders (sym f.says)

  pub turn_order : (o : Order) (next : ℕ) → given o next ≡ answer_at at (order_at s at) → parse_rest s at ≡ one_more o (parse_rest s next)
  turn_order o next e = rest_order s at o next h (answer_found at (order_at s at) o next e)

pub turn_read : (s : List ℕ) (at : ℕ) (o : Order) (next : ℕ) → given o next ≡ answer_at at (order_at s at) → OrderRead s at o next
turn_read s at o next e = order_read s at o next (answer_found at (order_at s at) o next e)

-- ---- a run of all orders, after count of them

pub record Running (all left : Parsed) (sheet₀ sheet : List ℕ) (count : ℕ) : Type 0 where
  pub is_sheet : IsSheet sheet
  pub well_formed : AllWellFormed left.orders
  pub refusal : all.refusal ≡ left.refusal
  pub orders : length all.orders ≡ count + length left.orders
  pub cells : run_of all.orders sheet₀ ≡ run_of left.orders sheet

pub begin : (all left : Parsed) (sheet : List ℕ) → left ≡ all → AllWellFormed all.orders → IsSheet sheet → Running all left sheet sheet 0
begin all left sheet e w h =
    record {
      is_sheet = h;
      well_formed = subst (λ (p : Parsed). AllWellFormed p.orders) (sym e) w;
      refusal = ap (λ (p : Parsed). p.refusal) (sym e);
      orders = omega (arith, ap (λ (p : Parsed). length p.orders) e);
      cells = ap (λ (p : Parsed). run_of p.orders sheet) (sym e);
    }

module _ (all left : Parsed) (sheet₀ sheet : List ℕ) (count : ℕ) (r : Running all left sheet₀ sheet count) where
  -- the next order, and the others
  module _ (o : Order) (others : Parsed) (e : left ≡ one_more o others) where
    here : Running all (one_more o others) sheet₀ sheet count
    here = subst (λ (p : Parsed). Running all p sheet₀ sheet count) e r

    pub onward : (sheet' : List ℕ) → (WellFormed o → sheet' ≡ step_of sheet o) → Running all others sheet₀ sheet' (count + 1)
    unfolding run_of
    onward sheet' stepped =
        let q = stepped here.well_formed.0 in
        let n = here.orders in
        record {
          is_sheet = subst IsSheet (sym q) (step_sheet sheet o r.is_sheet here.well_formed.0);
          well_formed = here.well_formed.1;
          refusal = here.refusal;
          orders = omega arith;
          cells = here.cells ∙ ap (run_of others.orders) (sym q);
        }

  -- none is left
  pub left_cells : (x : Refusal) → left ≡ no_orders x → sheet ≡ run_of all.orders sheet₀
  unfolding run_of
  left_cells x e = sym (r.cells ∙ ap (λ (p : Parsed). run_of p.orders sheet) e)
