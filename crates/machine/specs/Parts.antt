-- What an order's kind makes of its numbers: a step is one store of that (`one_store`), and an order that runs names cells of the sheet (`runnable_parts`).
use Rattle.std.specs.Prelude.{ℕ, zero, suc, ◌<◌, ◌≡◌, refl, true, ◌&&◌, List, eqb, ltb, length, set}
use Rattle.std.proofs.Common.{arith, eqb-true, ltb-true}
use Rattle.definitions.specs.declared.Order.{Order}
use Rattle.definitions.specs.declared.Parts.{Parts}
use Rattle.definitions.specs.declared.Order.TheVariants.{Constant, Sum, Difference, Product, Less, Equal}
use Rattle.definitions.specs.Limits.{cell_count, modulus}
use Rattle.definitions.specs.Answers.{parts_of}
use Rattle.definitions.specs.Machine.{cell, plus, minus, times, less_than, same_as, step_of}
use Rattle.std.specs.Cmp.{first_so, second_so}
use Rattle.machine.specs.Step.{constant_runs, cells_run, runnable, cells_run_lem}

-- what an order of a kind makes of its constant and of two cells' contents
abbrev pub kind_result : (kind k x y : ℕ) → ℕ
kind_result zero k x y = k
kind_result (suc zero) k x y = plus x y
kind_result (suc (suc zero)) k x y = minus x y
kind_result (suc (suc (suc zero))) k x y = times x y
kind_result (suc (suc (suc (suc zero)))) k x y = less_than x y
kind_result (suc (suc (suc (suc (suc zero))))) k x y = same_as x y
kind_result (suc (suc (suc (suc (suc (suc kind)))))) k x y = 0

-- the sheet after one store of what they make
abbrev pub store : List ℕ → Parts → List ℕ
store s q = set s q.d (kind_result q.kind q.k (cell s q.a) (cell s q.b))

pub one_store : (s : List ℕ) (o : Order) → step_of s o ≡ store s (parts_of o)
one_store s (Constant d k) = refl
one_store s (Sum d a b) = refl
one_store s (Difference d a b) = refl
one_store s (Product d a b) = refl
one_store s (Less d a b) = refl
one_store s (Equal d a b) = refl

-- ---- what an order that runs has for parts

-- what is known of the parts of an order that runs on s
pub record Runs (s : List ℕ) (q : Parts) : Type 0 where
  pub cells : length s ≡ cell_count
  pub target : q.d < cell_count
  pub left : q.a < cell_count
  pub right : q.b < cell_count
  pub residues : 0 < q.kind → (cell s q.a < modulus) × (cell s q.b < modulus)

module _ (s : List ℕ) where
  constant_parts : (d k : ℕ) → runnable s (Constant d k) ≡ true → Runs s (parts_of (Constant d k))
  constant_parts d k e =
      let f = second_so (eqb (length s) cell_count) (constant_runs d k) e in
      record {
        cells = eqb-true _ _ (first_so (eqb (length s) cell_count) _ e);
        target = ltb-true _ _ (first_so (ltb d cell_count) _ f);
        left = omega arith;
        right = omega arith;
        residues = λ h. absurd (let x : ⊥ = omega arith in x);
      }

  cells_parts : (kind d a b : ℕ) → (eqb (length s) cell_count && cells_run s d a b) ≡ true → Runs s (record { kind = kind; d = d; k = 0; a = a; b = b })
  cells_parts kind d a b e =
      let r = cells_run_lem s d a b (second_so (eqb (length s) cell_count) (cells_run s d a b) e) in
      record {
        cells = eqb-true _ _ (first_so (eqb (length s) cell_count) _ e);
        target = r.cells.0;
        left = r.cells.1;
        right = r.cells.2;
        residues = λ _. (r.first, r.second);
      }

  pub runnable_parts : (o : Order) → runnable s o ≡ true → Runs s (parts_of o)
  runnable_parts (Constant d k) e = constant_parts d k e
  runnable_parts (Sum d a b) e = cells_parts _ d a b e
  runnable_parts (Difference d a b) e = cells_parts _ d a b e
  runnable_parts (Product d a b) e = cells_parts _ d a b e
  runnable_parts (Less d a b) e = cells_parts _ d a b e
  runnable_parts (Equal d a b) e = cells_parts _ d a b e
