-- A widened bid table: its numbers (`number_same`, `no_hundredths`) and its length (`length_same`).
use Rattle.std.specs.Prelude.{ℕ, zero, suc, ◌+◌, ◌*◌, ◌<◌, ◌≡◌, refl, List, [], ◌∷◌, ℤ, pos, get_or, drop, length, eqb}
use Rattle.std.proofs.Common.{sym, ap, ◌∙◌, arith, get_or-drop, eqb-true, eq-eqb}
use Rattle.std.specs.Cmp.{both_ways}
use Rattle.definitions.specs.Limits as now
use Rattle.earlier.specs.Limits.{bid_numbers}
use Rattle.earlier.specs.Widened.{widened_table}

-- ---- its numbers

-- from bid i on
drop_widened : (i : ℕ) (s : List ℤ) → drop (now.bid_numbers * i) (widened_table s) ≡ widened_table (drop (bid_numbers * i) s)
unfolding widened_table
drop_widened zero s = refl
drop_widened (suc i) s =
    let e : now.bid_numbers * suc i ≡ suc (suc (suc (suc (now.bid_numbers * i)))) = omega arith in
    let f : bid_numbers * suc i ≡ suc (suc (suc (bid_numbers * i))) = omega arith in
    rw (e, f) (go s (drop_widened i))
  where
    go : (s : List ℤ) → ((t : List ℤ) → drop (now.bid_numbers * i) (widened_table t) ≡ widened_table (drop (bid_numbers * i) t))
        → drop (suc (suc (suc (suc (now.bid_numbers * i))))) (widened_table s) ≡ widened_table (drop (suc (suc (suc (bid_numbers * i)))) s)
    go [] h = refl
    go (x ∷ []) h = refl
    go (x ∷ y ∷ []) h = refl
    go (x ∷ y ∷ z ∷ rest) h = h rest

number_from : (s : List ℤ) (i j : ℕ) → get_or (widened_table s) (now.bid_numbers * i + j) (pos 0) ≡ get_or (widened_table (drop (bid_numbers * i) s)) j (pos 0)
number_from s i j = sym (get_or-drop (now.bid_numbers * i) (widened_table s) j (pos 0)) ∙ ap (λ (t : List ℤ). get_or t j (pos 0)) (drop_widened i s)

-- of the first bid
first_same : (s : List ℤ) (j : ℕ) → j < bid_numbers → get_or (widened_table s) j (pos 0) ≡ get_or s j (pos 0)
unfolding widened_table
first_same [] j l = refl
first_same (x ∷ []) j l = refl
first_same (x ∷ y ∷ []) j l = refl
first_same (x ∷ y ∷ z ∷ rest) zero l = refl
first_same (x ∷ y ∷ z ∷ rest) (suc zero) l = refl
first_same (x ∷ y ∷ z ∷ rest) (suc (suc zero)) l = refl
first_same (x ∷ y ∷ z ∷ rest) (suc (suc (suc j))) l = absurd (omega arith)

first_hundredths : (s : List ℤ) → get_or (widened_table s) now.hundredths_place (pos 0) ≡ pos 0
unfolding widened_table
first_hundredths [] = refl
first_hundredths (x ∷ []) = refl
first_hundredths (x ∷ y ∷ []) = refl
first_hundredths (x ∷ y ∷ z ∷ rest) = refl

-- of bid i
pub number_same : (s : List ℤ) (i j : ℕ) → j < bid_numbers → get_or (widened_table s) (now.bid_numbers * i + j) (pos 0) ≡ get_or s (bid_numbers * i + j) (pos 0)
number_same s i j l = number_from s i j ∙ first_same (drop (bid_numbers * i) s) j l ∙ get_or-drop (bid_numbers * i) s j (pos 0)

pub no_hundredths : (s : List ℤ) (i : ℕ) → get_or (widened_table s) (now.bid_numbers * i + now.hundredths_place) (pos 0) ≡ pos 0
no_hundredths s i = number_from s i now.hundredths_place ∙ first_hundredths (drop (bid_numbers * i) s)

-- ---- its length

-- so many whole bids, and so many numbers more
record WholeBids (s : List ℤ) : Type 0 where
  bids : ℕ
  more : ℕ
  no_bid : more < bid_numbers
  was : length s ≡ bid_numbers * bids + more
  is : length (widened_table s) ≡ now.bid_numbers * bids + more

whole_bids : (s : List ℤ) → WholeBids s
unfolding widened_table
whole_bids [] = record { bids = 0; more = 0; no_bid = omega arith; was = refl; is = refl }
whole_bids (x ∷ []) = record { bids = 0; more = 1; no_bid = omega arith; was = refl; is = refl }
whole_bids (x ∷ y ∷ []) = record { bids = 0; more = 2; no_bid = omega arith; was = refl; is = refl }
whole_bids (x ∷ y ∷ z ∷ rest) =
    let r = whole_bids rest in
    record { bids = suc r.bids; more = r.more; no_bid = r.no_bid; was = omega (arith, r.was); is = omega (arith, r.is) }

-- it is that of n bids exactly if it was
pub length_same : (n : ℕ) (s : List ℤ) → eqb (length (widened_table s)) (now.bid_numbers * n) ≡ eqb (length s) (bid_numbers * n)
length_same n s =
    let w = whole_bids s in
    both_ways (eqb (length (widened_table s)) (now.bid_numbers * n)) (eqb (length s) (bid_numbers * n))
    (λ e. eq-eqb _ _ (omega (arith, w.no_bid, w.was, w.is, eqb-true _ _ e)))
    (λ e. eq-eqb _ _ (omega (arith, w.no_bid, w.was, w.is, eqb-true _ _ e)))
