-- What `view` and its judge cite: a holder found in the table, the lengths of a view that is not refused, and the steps of the loop.
use Rattle.std.proofs.Common.{ℕ, ◌≤◌, ◌≡◌, refl, sym, ap, Bool, true, ◌&&◌, ◌||◌, List, [], ◌∷◌, length, eqb, eqb-true, arith}
use Rattle.std.specs.List.{list_any}
use Rattle.definitions.specs.Answers.{none}
use Rattle.definitions.specs.Calls.{results_refusal, length_refusal}
use Rattle.definitions.specs.Views.{is_among, holder_refusal, view_refusal}
use Rattle.laws.specs.Refusal.{test_passed, first_left, first_right}
use Rattle.laws.specs.Sizes.{results_counted}
use Rattle.std.specs.Cmp.{first_so, second_so}
use Rattle.views.specs.Places.{view_begins, view_keeps, view_clears}

-- the library's search for a holder
pub among_found : (holder : ℕ) (table : List ℕ) → is_among holder table ≡ list_any (λ h. eqb h holder) table
unfolding is_among
among_found holder [] = refl
among_found holder (h ∷ table) = ap (λ (rest : Bool). eqb h holder || rest) (among_found holder table)

module _ (n m : ℕ) (table : List ℕ) (holder results view : ℕ) (passed : none ≡ view_refusal n m table holder results view) where
  lengths : (eqb (length table) n && eqb view results) ≡ true
  unfolding view_refusal
  lengths =
      let test = eqb (length table) n && eqb view results in
      test_passed test 3 0 (first_left (length_refusal test) (holder_refusal table holder) (first_right (results_refusal n m results) _ (sym passed)))

  pub as_long : view ≡ results
  as_long = eqb-true _ _ (second_so (eqb (length table) n) _ lengths)

  -- each bid has a place among the results
  pub bids_shown : length table ≤ results
  unfolding view_refusal
  bids_shown =
      let bids : length table ≡ n = eqb-true _ _ (first_so (eqb (length table) n) _ lengths) in
      let counted = results_counted n m results (first_left (results_refusal n m results) _ (sym passed)) in
      omega (arith, counted.count)

pub ruleset viewing = (as_long, bids_shown, view_begins, view_keeps, view_clears)
