-- "Two opened clearings under one holder table give a holder the same view exactly if they agree on those shown numbers" (`same_view`).
use Rattle.std.proofs.Common.{sym, ap, ◌∙◌, subst, arith, ext_get_or, eq-eqb, eqb-true, ℕ, ◌+◌, ◌-◌, ◌*◌, ◌/◌, ◌%◌, ◌≡◌, refl, Bool, true, false, cond, List, length, ℤ, pos}
use Rattle.std.proofs.Math.Arith.{digits_lt}
use Rattle.definitions.specs.Limits.{pool_results}
use Rattle.definitions.specs.Sheet.{result_count}
use Rattle.definitions.specs.Calls.{result_at, flow_place, pool_place}
use Rattle.definitions.specs.Views.{view_of, Agree}
use Rattle.laws.specs.Rows.{row_column}
use Rattle.laws.specs.Tests.{Lt?, less, more, lt?}
use Rattle.views.specs.Places.{shown, shown_bid, shown_behind, view_length, view_at, view_shows}
use Rattle.views.specs.SameView.{AgreeShown}

-- ---- place by place, for any two lists of results of one length

pub same_view_shown : (table : List ℕ) (holder : ℕ) (r s : List ℤ) → length r ≡ length s
    → (view_of table holder r ≡ view_of table holder s → AgreeShown table holder r s)
    × (AgreeShown table holder r s → view_of table holder r ≡ view_of table holder s)
same_view_shown table holder r s lengths = (
  λ e k l q. view_shows table holder r k q ∙ ap (λ (v : List ℤ). result_at v k) e ∙ sym (view_shows table holder s k q),
  λ h. ext_get_or (pos 0) _ _ (view_length table holder r ∙ lengths ∙ sym (view_length table holder s))
      (λ k l. view_at table holder r k ∙ either (shown table holder k) (h k (omega (arith, view_length table holder r))) ∙ sym (view_at table holder s k)),
)
  where
    either : {x y : ℤ} (t : Bool) → (t ≡ true → x ≡ y) → cond t x (pos 0) ≡ cond t y (pos 0)
    either true h = h refl
    either false h = refl

-- ---- number by number, for the results of n bids and m pools: the places shown are those of the holder's amounts, all flows and all prices

module _ (n m : ℕ) (table : List ℕ) (holder : ℕ) (r s : List ℤ) (bids : length table ≡ n) (count : length r ≡ result_count n m) where
  to_numbers : AgreeShown table holder r s → Agree n m table holder r s
  to_numbers h = record {
    amounts = λ i l e. h i (omega arith) (shown_bid table holder i (omega arith) ∙ eq-eqb _ _ e);
    flows = λ a b l q. h _ (omega (arith, digits_lt l q)) (shown_behind table holder _ (omega arith));
    prices = λ p k l q. h _ (omega arith) (shown_behind table holder _ (omega arith));
  }

  to_places : Agree n m table holder r s → AgreeShown table holder r s
  to_places h k l q = go (lt? k n) (lt? k (n + m * m))
    where
      go : {a b : Bool} → Lt? k n a → Lt? k (n + m * m) b → result_at r k ≡ result_at s k
      go (less i) _ = h.amounts k i (eqb-true _ _ (sym (shown_bid table holder k (omega arith)) ∙ q))
      go (more i) (less j) =
          let line : ℕ = k - n in
          let found = row_column m line (omega arith) in
          let e : flow_place n m (line / m) (line % m) ≡ k = omega (arith, found.place) in
          subst (λ (x : ℕ). result_at r x ≡ result_at s x) e (h.flows (line / m) (line % m) found.row found.column)
      go (more i) (more j) =
          let place : ℕ = k - (n + m * m) in
          let e : pool_place n m (place / pool_results) + place % pool_results ≡ k = omega arith in
          subst (λ (x : ℕ). result_at r x ≡ result_at s x) e (h.prices (place / pool_results) (place % pool_results) (omega arith) (omega arith))

pub same_view : (n m : ℕ) (table : List ℕ) (holder : ℕ) (r s : List ℤ) → length table ≡ n → length r ≡ result_count n m → length s ≡ result_count n m
    → (view_of table holder r ≡ view_of table holder s → Agree n m table holder r s)
    × (Agree n m table holder r s → view_of table holder r ≡ view_of table holder s)
same_view n m table holder r s bids count same_count =
    let by_place = same_view_shown table holder r s (count ∙ sym same_count) in
    (λ e. to_numbers n m table holder r s bids count (by_place.0 e), λ a. by_place.1 (to_places n m table holder r s bids count a))
