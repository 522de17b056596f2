-- What `step` leaves on any slice for any order, and what a list of orders leaves. On a sheet the machine's orders do what document 01 says
-- (`stepped_is`, `stepped_all_is` in Run).
use Rattle.std.specs.Prelude.{ℕ, ◌<◌, ◌≡◌, refl, Bool, true, false, cond, ◌&&◌, List, [], ◌∷◌, ◌++◌, eqb, ltb, length}
use Rattle.std.proofs.Common.{ltb-true, eq-eqb, lt-ltb}
use Rattle.definitions.specs.declared.Order.{Order}
use Rattle.definitions.specs.declared.Order.TheVariants.{Constant, Sum, Difference, Product, Less, Equal}
use Rattle.definitions.specs.Limits.{cell_count, modulus}
use Rattle.definitions.specs.Machine.{cell, step_of, IsSheet, WellFormed, ThreeCells}
use Rattle.std.specs.Cmp.{first_so, second_so}

-- cell c is one of the sheet's and holds a residue
abbrev pub holds_residue : List ℕ → (c : ℕ) → Bool
holds_residue s c = ltb c cell_count && ltb (cell s c) modulus

-- order 0: d is a cell and k is "0 to p − 1"; it reads no cell
abbrev pub constant_runs : (d k : ℕ) → Bool
constant_runs d k = ltb d cell_count && ltb k modulus

-- orders 1 to 5: d, a and b are cells, and a and b, which are read, hold residues
abbrev pub cells_run : List ℕ → (d a b : ℕ) → Bool
cells_run s d a b = ltb d cell_count && (holds_residue s a && holds_residue s b)

-- the order is one of the machine's, and the cells that it reads hold residues
abbrev pub runs : List ℕ → Order → Bool
runs s (Constant d k) = constant_runs d k
runs s (Sum d a b) = cells_run s d a b
runs s (Difference d a b) = cells_run s d a b
runs s (Product d a b) = cells_run s d a b
runs s (Less d a b) = cells_run s d a b
runs s (Equal d a b) = cells_run s d a b

-- an order runs on a slice: it does by its cells, and the slice has 4,096
abbrev pub runnable : List ℕ → Order → Bool
runnable s o = eqb (length s) cell_count && runs s o

-- the slice after an order; one that cannot run on it leaves it as it is
unfoldable pub stepped : List ℕ → Order → List ℕ
stepped s o = cond (runnable s o) (step_of s o) s

pub stepped_run : (s : List ℕ) (o : Order) → runnable s o ≡ true → stepped s o ≡ step_of s o
unfolding stepped
stepped_run s o e = rw e refl

pub stepped_left : (s : List ℕ) (o : Order) → runnable s o ≡ false → stepped s o ≡ s
unfolding stepped
stepped_left s o e = rw e refl

-- the slice after some orders, each in turn
unfoldable pub stepped_all : List Order → List ℕ → List ℕ
stepped_all [] s = s
stepped_all (o ∷ os) s = stepped_all os (stepped s o)

pub stepped_append : (x y : List Order) (s : List ℕ) → stepped_all (x ++ y) s ≡ stepped_all y (stepped_all x s)
unfolding stepped_all
stepped_append [] y s = refl
stepped_append (o ∷ x) y s = stepped_append x y (stepped s o)

-- ---- what the tests say

module _ (s : List ℕ) where
  -- an order of these cells runs: they are cells of the sheet, and those that it reads hold residues
  pub record CellsRun (d a b : ℕ) : Type 0 where
    pub cells : ThreeCells d a b
    pub first : cell s a < modulus
    pub second : cell s b < modulus

  pub cells_run_lem : (d a b : ℕ) → cells_run s d a b ≡ true → CellsRun d a b
  cells_run_lem d a b e =
      let f = second_so (ltb d cell_count) (holds_residue s a && holds_residue s b) e in
      let g = first_so (holds_residue s a) (holds_residue s b) f in
      let h = second_so (holds_residue s a) (holds_residue s b) f in
      record {
        cells = (ltb-true _ _ (first_so (ltb d cell_count) _ e), ltb-true _ _ (first_so (ltb a cell_count) _ g), ltb-true _ _ (first_so (ltb b cell_count) _ h));
        first = ltb-true _ _ (second_so (ltb a cell_count) _ g);
        second = ltb-true _ _ (second_so (ltb b cell_count) _ h);
      }

  pub runs_cells : (d a b : ℕ) → CellsRun d a b → cells_run s d a b ≡ true
  runs_cells d a b r =
      rw (lt-ltb d cell_count r.cells.0, lt-ltb a cell_count r.cells.1, lt-ltb b cell_count r.cells.2, lt-ltb (cell s a) modulus r.first, lt-ltb (cell s b) modulus r.second)
      refl

-- on a sheet every order of the machine runs
cells_runnable : (s : List ℕ) (d a b : ℕ) → IsSheet s → ThreeCells d a b → (eqb (length s) cell_count && cells_run s d a b) ≡ true
cells_runnable s d a b h w = rw (eq-eqb (length s) cell_count h.cells, runs_cells s d a b (record { cells = w; first = h.below a; second = h.below b })) refl

pub sheet_runs : (s : List ℕ) (o : Order) → IsSheet s → WellFormed o → runnable s o ≡ true
sheet_runs s (Constant d k) h w = rw (eq-eqb (length s) cell_count h.cells, lt-ltb d cell_count w.0, lt-ltb k modulus w.1) refl
sheet_runs s (Sum d a b) h w = cells_runnable s d a b h w
sheet_runs s (Difference d a b) h w = cells_runnable s d a b h w
sheet_runs s (Product d a b) h w = cells_runnable s d a b h w
sheet_runs s (Less d a b) h w = cells_runnable s d a b h w
sheet_runs s (Equal d a b) h w = cells_runnable s d a b h w
