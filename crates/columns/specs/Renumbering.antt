-- Two sheets that hold the same values under a renumbering of their cells still do after any orders, renumbered alike (`run_renumbered`).
use Rattle.std.specs.Prelude.{Bool, ℕ, ◌≤◌, ◌<◌, ◌≡◌, List, [], ◌∷◌, map, length, set}
use Rattle.std.proofs.Common.{sym, ap, ◌∙◌, arith, length-set, get_or-set_same, get_or-set_other}
use Rattle.std.proofs.Math.Decide.{ℕ_discrete}
use Rattle.std.proofs.lemmas.List.{set_past}
use Rattle.definitions.specs.declared.Order.{Order}
use Rattle.definitions.specs.declared.Order.TheVariants.{Constant, Sum, Difference, Product, Less, Equal}
use Rattle.definitions.specs.Machine.{cell, plus, minus, times, less_than, same_as, step_of, run_of}
use Rattle.definitions.specs.Columns.{renumbered, SameUnder}
use Rattle.laws.specs.Tests.{Lt?, less, more, lt?}

-- new numbers for cells and the old ones back, one-to-one, and so on the cells of a sheet of some length among themselves
pub record Renumbering (cells : ℕ) (new old : ℕ → ℕ) : Type 0 where
  pub undone : (c : ℕ) → old (new c) ≡ c
  pub redone : (c : ℕ) → new (old c) ≡ c
  pub inside : (c : ℕ) → c < cells → new c < cells
  pub back_inside : (c : ℕ) → c < cells → old c < cells

-- two sheets of some length that hold the same values under new numbers
pub record Alike (cells : ℕ) (new : ℕ → ℕ) (s t : List ℕ) : Type 0 where
  pub first : length s ≡ cells
  pub second : length t ≡ cells
  pub same : SameUnder new s t

module _ {cells : ℕ} {new old : ℕ → ℕ} (r : Renumbering cells new old) where
  -- different cells have different new numbers
  apart : (c d : ℕ) → new c ≡ new d → c ≡ d
  apart c d e = sym (r.undone c) ∙ ap old e ∙ r.undone d

  -- a cell that is not on the sheet has a number that is not
  outside : (c : ℕ) → cells ≤ c → cells ≤ new c
  outside c h = go (lt? (new c) cells)
    where
      go : {t : Bool} → Lt? (new c) cells t → cells ≤ new c
      go (less l) = omega (arith, r.undone c, r.back_inside (new c) l)
      go (more l) = l

  module _ (s t : List ℕ) (alike : Alike cells new s t) where
    -- one value written in both
    written_alike : (d v : ℕ) → Alike cells new (set s d v) (set t (new d) v)
    written_alike d v = record {
      first = length-set s d v ∙ alike.first;
      second = length-set t (new d) v ∙ alike.second;
      same = λ c. go c (ℕ_discrete c d) (lt? d cells);
    }
      where
        go : (c : ℕ) → Dec (c ≡ d) → {u : Bool} → Lt? d cells u → cell (set t (new d) v) (new c) ≡ cell (set s d v) c
        go c (yes e) (less l) =
            rw e (get_or-set_same t (new d) v 0 (omega (arith, r.inside d l, alike.second)) ∙ sym (get_or-set_same s d v 0 (omega (arith, alike.first))))
        go c (yes e) (more l) =
            rw (set_past s d v (omega (arith, alike.first)), set_past t (new d) v (omega (arith, outside d l, alike.second))) (alike.same c)
        go c (no e) l = get_or-set_other t (new d) (new c) v 0 (λ q. e (apart c d q)) ∙ alike.same c ∙ sym (get_or-set_other s d c v 0 e)

    -- one order: the cells that it reads hold the same
    step_alike : (o : Order) → Alike cells new (step_of s o) (step_of t (renumbered new o))
    step_alike (Constant d k) = written_alike d k
    step_alike (Sum d a b) = rw (alike.same a, alike.same b) (written_alike d (plus (cell s a) (cell s b)))
    step_alike (Difference d a b) = rw (alike.same a, alike.same b) (written_alike d (minus (cell s a) (cell s b)))
    step_alike (Product d a b) = rw (alike.same a, alike.same b) (written_alike d (times (cell s a) (cell s b)))
    step_alike (Less d a b) = rw (alike.same a, alike.same b) (written_alike d (less_than (cell s a) (cell s b)))
    step_alike (Equal d a b) = rw (alike.same a, alike.same b) (written_alike d (same_as (cell s a) (cell s b)))

  -- and any orders
  pub run_renumbered : (os : List Order) (s t : List ℕ) → Alike cells new s t → Alike cells new (run_of os s) (run_of (map (renumbered new) os) t)
  unfolding run_of
  run_renumbered [] s t alike = alike
  run_renumbered (o ∷ os) s t alike = run_renumbered os (step_of s o) (step_of t (renumbered new o)) (step_alike s t alike o)
