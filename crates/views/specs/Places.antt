-- A view place by place: it has the results' length (`view_length`), and at each place their number or 0 (`view_at`).
use Rattle.std.specs.Prelude.{ℕ, zero, suc, ◌≤◌, ◌<◌, ◌≡◌, ◌≢◌, ◌+◌, refl, Bool, true, false, cond, List, [], ◌∷◌, eqb, length, get_or, take, set, ℤ, pos}
use Rattle.std.proofs.Common.{sym, ap, ◌∙◌, arith, eq-eqb, ne_eqb, add-one}
use Rattle.definitions.specs.Calls.{result_at}
use Rattle.definitions.specs.Views.{view_of}

-- whether a holder is shown what stands at a place of the results: its own bids' amounts, and all behind the bids
unfoldable pub shown : (table : List ℕ) (holder : ℕ) (k : ℕ) → Bool
shown [] holder k = true
shown (h ∷ table) holder zero = eqb h holder
shown (h ∷ table) holder (suc k) = shown table holder k

pub shown_bid : (table : List ℕ) (holder : ℕ) (k : ℕ) → k < length table → shown table holder k ≡ eqb (get_or table k 0) holder
unfolding shown
shown_bid [] holder k l = absurd (omega arith)
shown_bid (h ∷ table) holder zero l = refl
shown_bid (h ∷ table) holder (suc k) l = shown_bid table holder k (omega arith)

pub shown_behind : (table : List ℕ) (holder : ℕ) (k : ℕ) → length table ≤ k → shown table holder k ≡ true
unfolding shown
shown_behind [] holder k l = refl
shown_behind (h ∷ table) holder zero l = absurd (omega arith)
shown_behind (h ∷ table) holder (suc k) l = shown_behind table holder k (omega arith)

pub view_length : (table : List ℕ) (holder : ℕ) (results : List ℤ) → length (view_of table holder results) ≡ length results
unfolding view_of
view_length [] holder results = refl
view_length (h ∷ table) holder [] = refl
view_length (h ∷ table) holder (x ∷ results) = ap suc (view_length table holder results)

-- 0 either way
always_zero : (t : Bool) → pos 0 ≡ cond t (pos 0) (pos 0)
always_zero true = refl
always_zero false = refl

pub view_at : (table : List ℕ) (holder : ℕ) (results : List ℤ) (k : ℕ) → result_at (view_of table holder results) k ≡ cond (shown table holder k) (result_at results k) (pos 0)
unfolding view_of shown
view_at [] holder results k = refl
view_at (h ∷ table) holder [] k = always_zero (shown (h ∷ table) holder k)
view_at (h ∷ table) holder (x ∷ results) zero = refl
view_at (h ∷ table) holder (x ∷ results) (suc k) = view_at table holder results k

-- by what is shown
module _ (table : List ℕ) (holder : ℕ) (results : List ℤ) (k : ℕ) where
  by_test : {t : Bool} → shown table holder k ≡ t → result_at (view_of table holder results) k ≡ cond t (result_at results k) (pos 0)
  by_test e = view_at table holder results k ∙ ap (λ (t : Bool). cond t (result_at results k) (pos 0)) e

  pub view_shows : shown table holder k ≡ true → result_at results k ≡ result_at (view_of table holder results) k
  view_shows e = sym (by_test e)

-- ---- a table gone through entry by entry: at entry i the holder's own amount stays, another's becomes 0

module _ (holder : ℕ) where
  pub view_begins : (results : List ℤ) → view_of [] holder results ≡ results
  unfolding view_of
  view_begins results = refl

  stays : (table : List ℕ) (results : List ℤ) (i : ℕ) → i < length table → get_or table i 0 ≡ holder → view_of (take i table) holder results ≡ view_of (take (suc i) table) holder results
  unfolding view_of
  stays [] results i l e = absurd (omega arith)
  stays (h ∷ table) [] zero l e = refl
  stays (h ∷ table) [] (suc i) l e = refl
  stays (h ∷ table) (x ∷ results) zero l e = rw (eq-eqb h holder e) refl
  stays (h ∷ table) (x ∷ results) (suc i) l e = ap (λ (xs : List ℤ). cond (eqb h holder) x (pos 0) ∷ xs) (stays table results i (omega arith) e)

  becomes_zero : (table : List ℕ) (results : List ℤ) (i : ℕ) → i < length table → get_or table i 0 ≢ holder → set (view_of (take i table) holder results) i (pos 0) ≡ view_of (take (suc i) table) holder results
  unfolding view_of
  becomes_zero [] results i l e = absurd (omega arith)
  becomes_zero (h ∷ table) [] zero l e = refl
  becomes_zero (h ∷ table) [] (suc i) l e = refl
  becomes_zero (h ∷ table) (x ∷ results) zero l e = rw (ne_eqb h holder e) refl
  becomes_zero (h ∷ table) (x ∷ results) (suc i) l e = ap (λ (xs : List ℤ). cond (eqb h holder) x (pos 0) ∷ xs) (becomes_zero table results i (omega arith) e)

  -- the same at the code's i + 1, of a list that is the view so far
  module _ (table : List ℕ) (results : List ℤ) {out : List ℤ} {i : ℕ} (so_far : out ≡ view_of (take i table) holder results) (within : i < length table) where
    pub view_keeps : get_or table i 0 ≡ holder → out ≡ view_of (take (i + 1) table) holder results
    view_keeps e = rw (add-one i) (so_far ∙ stays table results i within e)

    pub view_clears : get_or table i 0 ≢ holder → set out i (pos 0) ≡ view_of (take (i + 1) table) holder results
    view_clears e = rw (add-one i) (ap (λ (xs : List ℤ). set xs i (pos 0)) so_far ∙ becomes_zero table results i within e)
