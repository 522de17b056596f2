-- Orders over names as the code makes them are the plan's (`named_of`); a block's order at a turn (`made`), orders that a test chooses, and the machine's
-- order for each.
use Rattle.std.specs.Prelude.{◌≡◌, refl, ◌≢◌, Bool, true, false, cond, List, [], ◌∷◌, ℕ, suc, ◌-◌, ◌≤◌, get_or, eqb}
use Rattle.std.proofs.Common.{sym, ap, ◌∙◌, arith, eq-eqb, ne_eqb}
use Rattle.definitions.specs.declared.Order.{Order}
use Rattle.orders.specs.declared.names.Name as code
use Rattle.orders.specs.declared.names.Operation as code_operation
use Rattle.orders.specs.declared.names.Operation.TheVariants as operations
use Rattle.orders.specs.declared.names.NamedOrder.{NamedOrder}
use Rattle.orders.specs.declared.names.NamedOrder.TheVariants as orders
use Rattle.plan.specs.Orders.{OrderOn, order_of, renamed, constant, operate, sum, difference, product, less, Operation, adding, subtracting, multiplying, comparing, equating}
use Rattle.plan.specs.Subsets.{leaves, lowest, others}
use Rattle.plan.specs.Running.{subset_order, subset_block}
use Rattle.plan.specs.Blocks.{cut_turn, reach_cell, reach_turn, taken_cell, take_turn}
use Rattle.plan.specs.Names.{Name, at, ZeroCell, Temporary, Capacity, Cut, Slack, Subset, ReachTest}
use Rattle.plan.specs.Plan.{cell_of}

-- ---- as the code makes them

-- the plan's name
abbrev pub name_of : code.Name → Name
name_of c = at c.family c.row c.column

-- the plan's operation
abbrev pub operation_of : code_operation.Operation → Operation
operation_of operations.Sum = adding
operation_of operations.Difference = subtracting
operation_of operations.Product = multiplying
operation_of operations.Less = comparing
operation_of operations.Equal = equating

-- the plan's order over names
abbrev pub named_of : NamedOrder → OrderOn Name
named_of (orders.Constant d k) = constant (name_of d) k
named_of (orders.Operate op d a b) = operate (operation_of op) (name_of d) (name_of a) (name_of b)

-- ---- a block's orders

-- the order at a turn of a block; shut, so that a proof need not write the block again
unfoldable pub made : List (OrderOn Name) → ℕ → OrderOn Name
made l r = get_or l r (constant ZeroCell 0)

-- at a turn that is known
pub at_turn : (l : List (OrderOn Name)) (w : OrderOn Name) (r k : ℕ) → r ≡ k → w ≡ get_or l k (constant ZeroCell 0) → w ≡ made l r
unfolding made
at_turn l w r k e f = f ∙ ap (λ (x : ℕ). get_or l x (constant ZeroCell 0)) (sym e)

-- behind the first of a block
pub made_next : (o : OrderOn Name) (l : List (OrderOn Name)) (r : ℕ) → 1 ≤ r → made l (r - 1) ≡ made (o ∷ l) r
unfolding made
made_next o l r h =
    let e : r ≡ suc (r - 1) = omega arith in
    sym (ap (λ (k : ℕ). get_or (o ∷ l) k (constant ZeroCell 0)) e)

-- `lowered` and `raised` in one: d takes what a holds, where low holds less than high
abbrev pub moved : (d a low high : Name) → List (OrderOn Name)
moved d a low high =
    less (Temporary 0) low high
    ∷ difference (Temporary 1) a d
    ∷ product (Temporary 0) (Temporary 0) (Temporary 1)
    ∷ sum d d (Temporary 0)
    ∷ []

-- ---- orders that a test chooses

module _ (s a b : ℕ) where
  pub cut_chosen : (x : Bool) → x ≡ leaves s a b → sum (Cut s) (Cut s) (cond x (Capacity a b) ZeroCell) ≡ made (cut_turn s a b) 0
  unfolding made
  cut_chosen x e = rw e

  pub reach_chosen : (l : ℕ) (x : Bool) → x ≡ leaves s a b → product (ReachTest l) (ReachTest l) (reach_cell x s) ≡ made (reach_turn l a b s) 0
  unfolding made
  reach_chosen l x e = rw e

  pub take_chosen : (l : ℕ) (x y : Bool) → x ≡ leaves s a b → y ≡ leaves s b a
      → difference (Slack s) (Slack s) (taken_cell x y l) ≡ made (take_turn l a b s) 0
  unfolding made
  take_chosen l x y e f = rw (e, f)

-- the sums over subsets: only the cell of the lowest pool is read
pub subset_first : (m s : ℕ) (X : ℕ → Name) → s ≡ 0 → constant (Subset s) 0 ≡ made (subset_block m X s) 0
unfolding made
subset_first m s X e = rw (eq-eqb s 0 e)

pub subset_next : (m s : ℕ) (X : ℕ → Name) → s ≢ 0 → sum (Subset s) (Subset (others m s)) (X (lowest m s)) ≡ made (subset_block m X s) 0
unfolding made
subset_next m s X e = rw (ne_eqb s 0 e)

pub subset_lowest : (m s : ℕ) (X : ℕ → Name) (c : Name) → c ≡ X (lowest m s) → made (subset_block m (λ p. c) s) 0 ≡ made (subset_block m X s) 0
unfolding made
subset_lowest m s X c e = go (eqb s 0)
  where
    go : (z : Bool) → subset_order z m (λ p. c) s ≡ subset_order z m X s
    go true = refl
    go false = ap (λ (d : Name). sum (Subset s) (Subset (others m s)) d) e

-- ---- from names to cells

-- the machine's order for an order over names
unfoldable pub numbered_of : (n m : ℕ) → OrderOn Name → Order
numbered_of n m w = order_of (renamed (cell_of n m) w)
