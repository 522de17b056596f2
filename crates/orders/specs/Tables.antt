-- The tables of a plan: where each family of cells begins and where the last ends, how many columns each has (`IsLayout`), and how many
-- orders each phase has (`IsSizes`).
use Rattle.std.specs.Prelude.{◌≡◌, ◌⊎◌, List, ℕ, suc, ◌+◌, ◌*◌, ◌^◌, ◌≤◌, ◌<◌, length, get_or, set}
use Rattle.std.proofs.Common.{sym, ap, ◌∙◌, inl, inr, arith, eq-or-lt_of_le, not-suc-le-zero, add-one, length-set, get_or-set_same, get_or-set_other, refl}
use Rattle.definitions.specs.Arithmetic.{sum_to}
use Rattle.definitions.specs.Limits.{cell_count}
use Rattle.laws.specs.Sizes.{Counts}
use Rattle.plan.specs.declared.Family.TheVariants.{Temporaries}
use Rattle.plan.specs.declared.Place.{Place}
use Rattle.plan.specs.Names.{number, family_count, family_at, family_place, rows_of, columns_of}
use Rattle.plan.proofs.LayoutFacts.{base_grows}
use Rattle.plan.specs.Phased.{phase_size}
use Rattle.plan.specs.Table.{phase_at, phase_count}
use Rattle.plan.specs.Plan.{from, scratch_count}
use Rattle.plan.proofs.PlanFacts.{from_scratch, from_end, names_fit}
use Rattle.orders.specs.Limits.{phase_limit}

pub from_next : (n m u : ℕ) → from n m (suc u) ≡ from n m u + rows_of n m (family_at u) * columns_of n m (family_at u)
unfolding from sum_to
from_next n m u = refl

pub from_small : (n m u : ℕ) → Counts n m → u ≤ family_count → from n m u ≤ cell_count
unfolding from
from_small n m u h l = omega (arith, base_grows (rows_of n m) (columns_of n m) u family_count l, from_end n m, names_fit n m h.bids h.pools.most)

-- the first k families have their entries
pub record LaidTo (n m k : ℕ) (starts columns : List ℕ) : Type 0 where
  pub long : (length starts ≡ family_count + 1) × (length columns ≡ family_count)
  pub begin : (f : ℕ) → f < k → get_or starts f 0 ≡ from n m f
  pub wide : (f : ℕ) → f < k → get_or columns f 0 ≡ columns_of n m (family_at f)

-- all have, and the last end is there
pub record IsLayout (n m : ℕ) (starts columns : List ℕ) : Type 0 where
  pub begin : (f : ℕ) → f ≤ family_count → get_or starts f 0 ≡ from n m f
  pub wide : (f : ℕ) → f < family_count → get_or columns f 0 ≡ columns_of n m (family_at f)

-- the entry that was written, and one that was not
kept : (t : List ℕ) (at other v : ℕ) → (at ≡ other → ⊥) → get_or (set t at v) other 0 ≡ get_or t other 0
kept t at other v h = get_or-set_other t at other v 0 (λ e. h (sym e))

-- one entry more
more : (t : List ℕ) (k v : ℕ) (g : ℕ → ℕ) → k < length t → ((f : ℕ) → f < k → get_or t f 0 ≡ g f) → v ≡ g k → (f : ℕ) → f < k + 1 → get_or (set t k v) f 0 ≡ g f
more t k v g room h e f u = go (eq-or-lt_of_le u)
  where
    go : (suc f ≡ k + 1) ⊎ (suc f < k + 1) → get_or (set t k v) f 0 ≡ g f
    go (inl q) = let same : f ≡ k = omega arith in rw (same, get_or-set_same t k v 0 room) e
    go (inr l) = kept t k f v (λ q. absurd (omega arith)) ∙ h f (omega arith)

module _ (n m : ℕ) where
  pub laid_none : (starts columns : List ℕ) → length starts ≡ family_count + 1 → length columns ≡ family_count → LaidTo n m 0 starts columns
  laid_none starts columns e g = record { long = (e, g); begin = λ f h. absurd (not-suc-le-zero h); wide = λ f h. absurd (not-suc-le-zero h) }

  -- one family more
  pub laid_one : (k start wide : ℕ) (starts columns : List ℕ) → LaidTo n m k starts columns → k < family_count → start ≡ from n m k → wide ≡ columns_of n m (family_at k)
      → LaidTo n m (k + 1) (set starts k start) (set columns k wide)
  laid_one k start wide starts columns h l e g = record {
    long = (length-set starts k start ∙ h.long.0, length-set columns k wide ∙ h.long.1);
    begin = more starts k start (from n m) (omega (arith, h.long.0)) h.begin e;
    wide = more columns k wide (λ f. columns_of n m (family_at f)) (omega (arith, h.long.1)) h.wide g;
  }

  pub laid_all : (end : ℕ) (starts columns : List ℕ) → LaidTo n m family_count starts columns → end ≡ from n m family_count → IsLayout n m (set starts family_count end) columns
  laid_all end starts columns h e = record {
    begin = λ f u. more starts family_count end (from n m) (omega (arith, h.long.0)) h.begin e f (omega arith);
    wide = h.wide;
  }

  -- the first family begins at cell 0
  pub first_start : 0 ≡ from n m 0
  unfolding from sum_to
  first_start = refl

  -- where the next family begins: on the sheet
  pub next_start : (k start : ℕ) (p : Place) → p ≡ family_place n m (m * m) (2 ^ m) (family_at k) → start ≡ from n m k → start + p.1 * p.2 ≡ from n m (k + 1)
  next_start k start p e g = rw (e, g) (sym (ap (from n m) (add-one k) ∙ from_next n m k))

  pub next_on_sheet : (k start : ℕ) (p : Place) → Counts n m → k < family_count → p ≡ family_place n m (m * m) (2 ^ m) (family_at k) → start ≡ from n m k → start + p.1 * p.2 ≤ cell_count
  next_on_sheet k start p h l e g = omega (arith, next_start k start p e g, from_small n m (k + 1) h (omega arith))

  -- how many scratch cells have names: from the temporaries to the end
  pub scratch_is : (starts columns : List ℕ) → IsLayout n m starts columns → get_or starts family_count 0 ≡ get_or starts (number Temporaries) 0 + scratch_count n m
  scratch_is starts columns h = omega (arith, h.begin family_count (omega arith), h.begin (number Temporaries) (omega arith), from_end n m, from_scratch n m)

-- ---- the sizes of the phases

-- size is that of phase k
pub record IsSize (n m k size : ℕ) : Type 0 where
  pub is : size ≡ phase_size (phase_at n m k)
  pub small : size ≤ phase_limit

-- each phase has its entry
abbrev pub IsSizes : (n m : ℕ) → List ℕ → Type 0
IsSizes n m sizes = (k : ℕ) → k < phase_count → IsSize n m k (get_or sizes k 0)

-- one phase more
pub more_sizes : (n m : ℕ) (t : List ℕ) (k size : ℕ) → k < length t → ((f : ℕ) → f < k → IsSize n m f (get_or t f 0)) → IsSize n m k size
    → (f : ℕ) → f < k + 1 → IsSize n m f (get_or (set t k size) f 0)
more_sizes n m t k size room h e f u = go (eq-or-lt_of_le u)
  where
    go : (suc f ≡ k + 1) ⊎ (suc f < k + 1) → IsSize n m f (get_or (set t k size) f 0)
    go (inl q) = let same : f ≡ k = omega arith in rw (same, get_or-set_same t k size 0 room) e
    go (inr l) = rw (kept t k f size (λ q. absurd (omega arith))) (h f (omega arith))
