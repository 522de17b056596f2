-- Families of cells by their numbers: number and family are each other's (`number_at`), and every number is below the count (`number_below`).
use Rattle.std.specs.Prelude.{◌≡◌, refl, Bool, List, [], ◌∷◌, map, ℕ, zero, suc, ◌+◌, ◌<◌, length, get_or}
use Rattle.std.proofs.Common.{sym, ap, ◌∙◌, arith, le_of_suc-le-suc, not-suc-le-zero, add-zero, zero-add}
use Rattle.std.proofs.Math.ListN.{get_or-eq_default}
use Rattle.laws.specs.Tests.{Lt?, less, more, lt?}
use Rattle.plan.specs.declared.Family.{Family}
use Rattle.plan.specs.declared.Family.TheVariants.{Bids}
use Rattle.plan.specs.Names.{families, number, family_count, family_at}
use Rattle.plan.proofs.NameFacts.{at_number}

-- the numbers from k on, so many of them
up_from : (k count : ℕ) → List ℕ
up_from k zero = []
up_from k (suc count) = k ∷ up_from (suc k) count

entry_up : (k count t : ℕ) → t < count → get_or (up_from k count) t 0 ≡ k + t
unfolding up_from
entry_up k zero t h = absurd (not-suc-le-zero h)
entry_up k (suc count) zero h = sym (add-zero k)
entry_up k (suc count) (suc t) h = entry_up (suc k) count t (le_of_suc-le-suc h) ∙ omega arith

-- entry k of a table with one entry for each family
entry_at : (g : Family → ℕ) (l : List Family) (k : ℕ) → k < length l → get_or (map g l) k 0 ≡ g (get_or l k Bids)
entry_at g [] k h = absurd (not-suc-le-zero h)
entry_at g (f ∷ l) zero h = refl
entry_at g (f ∷ l) (suc k) h = entry_at g l k (le_of_suc-le-suc h)

pub number_at : (f : ℕ) → f < family_count → number (family_at f) ≡ f
unfolding up_from
number_at f h =
    let numbers : map number families ≡ up_from 0 family_count = refl in
    sym (entry_at number families f h) ∙ ap (λ (l : List ℕ). get_or l f 0) numbers ∙ entry_up 0 family_count f h ∙ zero-add f

pub number_below : (f : Family) → number f < family_count
number_below f = go (lt? (number f) family_count)
  where
    go : {x : Bool} → Lt? (number f) family_count x → number f < family_count
    go (less h) = h
    go (more h) =
        let first : f ≡ Bids = sym (at_number f) ∙ get_or-eq_default families Bids h in
        rw first (omega arith)

-- whatever is made of two families by their numbers
pub numbers_at : (A : Type 0) (make : ℕ → ℕ → A) (f g : ℕ) → f < family_count → g < family_count → make f g ≡ make (number (family_at f)) (number (family_at g))
numbers_at A make f g a b = rw (number_at f a, number_at g b)
