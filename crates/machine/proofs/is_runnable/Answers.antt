-- `is_runnable` meets its contract: orders 1 to 5 run by the same test, on an array that is the whole slice.
use Rattle.std.proofs.Common.{ℕ, ◌≡◌, ◌⊎◌, inl, inr, refl, sym, List, length, eq-eqb}
use Rattle.definitions.specs.declared.Order.{Order}
use Rattle.definitions.specs.declared.Order.TheVariants.{Sum, Difference, Product, Less, Equal}
use Rattle.definitions.specs.Limits.{cell_count}
use Rattle.machine.specs.Step.{cells_run, runs}
use Rattle.machine.proofs.is_runnable.Goals as goal

by_cells : (s : List ℕ) (o : Order) (d a b : ℕ) → (o ≡ Sum d a b) ⊎ ((o ≡ Difference d a b) ⊎ ((o ≡ Product d a b) ⊎ ((o ≡ Less d a b) ⊎ (o ≡ Equal d a b)))) → runs s o ≡ cells_run s d a b
by_cells s o d a b (inl e) = rw e refl
by_cells s o d a b (inr (inl e)) = rw e refl
by_cells s o d a b (inr (inr (inl e))) = rw e refl
by_cells s o d a b (inr (inr (inr (inl e)))) = rw e refl
by_cells s o d a b (inr (inr (inr (inr e)))) = rw e refl

pub returns-in-Sum : goal.returns-in-Sum
returns-in-Sum c =
    let a = c.args in
    let o = c.in-Sum in
    let whole = c.in-Some.ensures.cases in
    rw (by_cells a.sheet.now a.order o.d o.a o.b o.is, eq-eqb (length a.sheet.now) cell_count whole.long, sym whole.same) c.cells_run.ensures
