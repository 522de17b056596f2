-- An order of the machine runs on every sheet (`stepped_is`), and the sheet stays a sheet under an order and under a list of orders.
use Rattle.std.specs.Prelude.{ℕ, zero, suc, ◌<◌, ◌≡◌, refl, Bool, true, false, cond, List, [], ◌∷◌, eqb, length, set}
use Rattle.std.proofs.Common.{sym, ap, subst, ◌∙◌, arith, mod-lt, length-set, get_or-set_same, get_or-set_other}
use Rattle.std.proofs.Math.Decide.{ℕ_discrete}
use Rattle.std.specs.Int.Signed.{lt_z}
use Rattle.definitions.specs.Limits.{cell_count, modulus}
use Rattle.definitions.specs.Arithmetic.{reading}
use Rattle.definitions.specs.declared.Order.{Order}
use Rattle.definitions.specs.declared.Order.TheVariants.{Constant, Sum, Difference, Product, Less, Equal}
use Rattle.definitions.specs.Machine.{cell, IsSheet, WellFormed, AllWellFormed, step_of, run_of}
use Rattle.definitions.specs.declared.Parts.{Parts}
use Rattle.definitions.specs.Answers.{parts_of}
use Rattle.machine.specs.Step.{runnable, stepped, stepped_run, stepped_all, sheet_runs}
use Rattle.machine.specs.Parts.{kind_result, one_store}

-- ---- One order

pub stepped_is : (s : List ℕ) (o : Order) → IsSheet s → WellFormed o → stepped s o ≡ step_of s o
stepped_is s o h w = stepped_run s o (sheet_runs s o h w)

-- a step keeps the slice's length
pub stepped_length : (s : List ℕ) (o : Order) → length (stepped s o) ≡ length s
unfolding stepped
stepped_length s o = go (runnable s o)
  where
    go : (t : Bool) → length (cond t (step_of s o) s) ≡ length s
    go true = ap length (one_store s o) ∙ length-set s (parts_of o).d _
    go false = refl

-- the numbers of a well-formed order: cells of the sheet, and a constant below p
pub record PartsWithin (q : Parts) : Type 0 where
  pub target : q.d < cell_count
  pub left : q.a < cell_count
  pub right : q.b < cell_count
  pub constant : q.k < modulus

pub parts_within : (o : Order) → WellFormed o → PartsWithin (parts_of o)
parts_within (Constant d k) h = record { target = h.0; left = omega arith; right = omega arith; constant = h.1 }
parts_within (Sum d a b) h = record { target = h.0; left = h.1; right = h.2; constant = omega arith }
parts_within (Difference d a b) h = record { target = h.0; left = h.1; right = h.2; constant = omega arith }
parts_within (Product d a b) h = record { target = h.0; left = h.1; right = h.2; constant = omega arith }
parts_within (Less d a b) h = record { target = h.0; left = h.1; right = h.2; constant = omega arith }
parts_within (Equal d a b) h = record { target = h.0; left = h.1; right = h.2; constant = omega arith }

-- every result is below p
bit_below : (t : Bool) → cond t 1 0 < modulus
bit_below true = omega arith
bit_below false = omega arith

pub result_below : (kind k x y : ℕ) → k < modulus → kind_result kind k x y < modulus
result_below zero k x y h = h
result_below (suc zero) k x y h = mod-lt _ (omega arith)
result_below (suc (suc zero)) k x y h = mod-lt _ (omega arith)
result_below (suc (suc (suc zero))) k x y h = mod-lt _ (omega arith)
result_below (suc (suc (suc (suc zero)))) k x y h = bit_below (lt_z (reading x) (reading y))
result_below (suc (suc (suc (suc (suc zero))))) k x y h = bit_below (eqb x y)
result_below (suc (suc (suc (suc (suc (suc kind)))))) k x y h = omega arith

-- a store of a number below p
pub set_sheet : (s : List ℕ) (d v : ℕ) → IsSheet s → d < cell_count → v < modulus → IsSheet (set s d v)
set_sheet s d v h l k = record { cells = length-set s d v ∙ h.cells; below = λ c. go c (ℕ_discrete c d) }
  where
    go : (c : ℕ) → Dec (c ≡ d) → cell (set s d v) c < modulus
    go c (yes e) = rw (e, get_or-set_same s d v 0 (omega (arith, h.cells))) k
    go c (no e) = rw (get_or-set_other s d c v 0 e) (h.below c)

pub step_sheet : (s : List ℕ) (o : Order) → IsSheet s → WellFormed o → IsSheet (step_of s o)
step_sheet s o h w =
    let q = parts_of o in
    let p = parts_within o w in
    subst IsSheet (sym (one_store s o)) (set_sheet s q.d _ h p.target (result_below q.kind q.k _ _ p.constant))

-- ---- A list of orders

pub run_sheet_lem : (os : List Order) (s : List ℕ) → IsSheet s → AllWellFormed os → IsSheet (run_of os s)
unfolding run_of
run_sheet_lem [] s h w = h
run_sheet_lem (o ∷ os) s h w = run_sheet_lem os (step_of s o) (step_sheet s o h w.0) w.1

-- on a sheet the machine's orders, each stepped in turn, are document 01's run
pub stepped_all_is : (os : List Order) (s : List ℕ) → IsSheet s → AllWellFormed os → stepped_all os s ≡ run_of os s
unfolding stepped_all run_of
stepped_all_is [] s h w = refl
stepped_all_is (o ∷ os) s h w = ap (stepped_all os) (stepped_is s o h w.0) ∙ stepped_all_is os (step_of s o) (step_sheet s o h w.0) w.1

-- some orders in turn keep the length of any slice
pub stepped_all_length : (os : List Order) (s : List ℕ) → length (stepped_all os s) ≡ length s
unfolding stepped_all
stepped_all_length [] s = refl
stepped_all_length (o ∷ os) s = stepped_all_length os (stepped s o) ∙ stepped_length s o
