-- The renumbering to columns is one-to-one on every sheet that holds the bids, and `row_cell` undoes it (`columns_renumber`).
use Rattle.std.specs.Prelude.{Bool, ℕ, zero, suc, ◌+◌, ◌*◌, ◌/◌, ◌%◌, ◌≤◌, ◌<◌, ◌≡◌, refl, cond, ltb}
use Rattle.std.proofs.Common.{ap, ◌∙◌, arith, lt-ltb, le-ltb, mod-lt, div-lt_iff_lt-mul, div-add-mod'}
use Rattle.std.proofs.Math.Arith.{digits_lt, digits_div, digits_mod}
use Rattle.definitions.specs.Limits.{bid_numbers}
use Rattle.definitions.specs.Columns.{column_of, column_cell}
use Rattle.laws.specs.Tests.{Lt?, less, more, lt?}
use Rattle.columns.specs.Renumbering.{Renumbering}

-- the old number of a cell by its new one; two columns have changed places, so the place of a column's number is the column of that place
unfoldable pub row_cell : (n c : ℕ) → ℕ
row_cell n c = cond (ltb c (bid_numbers * n)) (bid_numbers * (c % n) + column_of (c / n)) c

-- a bid's numbers have as many columns
pub column_small : (place : ℕ) → column_of place < bid_numbers
column_small zero = omega arith
column_small (suc zero) = omega arith
column_small (suc (suc zero)) = omega arith
column_small (suc (suc (suc place))) = omega arith

-- two columns change places, so the column of the column is the place again
pub column_twice : (place : ℕ) → place < bid_numbers → column_of (column_of place) ≡ place
column_twice zero l = refl
column_twice (suc zero) l = refl
column_twice (suc (suc zero)) l = refl
column_twice (suc (suc (suc zero))) l = refl
column_twice (suc (suc (suc (suc place)))) l = absurd (omega arith)

module _ (n : ℕ) where
  -- a cell of the bids, and any other
  pub column_moved : (c : ℕ) → c < bid_numbers * n → column_cell n c ≡ column_of (c % bid_numbers) * n + c / bid_numbers
  unfolding column_cell
  column_moved c l = simp (lt-ltb _ _ l)

  pub column_kept : (c : ℕ) → bid_numbers * n ≤ c → column_cell n c ≡ c
  unfolding column_cell
  column_kept c l = simp (le-ltb _ _ l)

  row_moved : (c : ℕ) → c < bid_numbers * n → row_cell n c ≡ bid_numbers * (c % n) + column_of (c / n)
  unfolding row_cell
  row_moved c l = simp (lt-ltb _ _ l)

  row_kept : (c : ℕ) → bid_numbers * n ≤ c → row_cell n c ≡ c
  unfolding row_cell
  row_kept c l = simp (le-ltb _ _ l)

  -- number `place` of bid i
  pub column_of_bid : (i place : ℕ) → i < n → place < bid_numbers → column_cell n (bid_numbers * i + place) ≡ column_of place * n + i
  column_of_bid i place l h =
      let q : (bid_numbers * i + place) % bid_numbers ≡ place = omega arith in
      let d : (bid_numbers * i + place) / bid_numbers ≡ i = omega arith in
      column_moved (bid_numbers * i + place) (omega arith) ∙ rw (q, d) refl

  column_inside : (c : ℕ) → c < bid_numbers * n → column_cell n c < bid_numbers * n
  column_inside c l =
      let i : c / bid_numbers < n = omega arith in
      omega (arith, column_moved c l, digits_lt (column_small (c % bid_numbers)) i)

  row_inside : (c : ℕ) → c < bid_numbers * n → row_cell n c < bid_numbers * n
  row_inside c l =
      let some : 0 < n = omega arith in
      omega (arith, row_moved c l, mod-lt c some, column_small (c / n))

  row_of_column : (c : ℕ) → row_cell n (column_cell n c) ≡ c
  row_of_column c = go (lt? c (bid_numbers * n))
    where
      go : {t : Bool} → Lt? c (bid_numbers * n) t → row_cell n (column_cell n c) ≡ c
      go (less l) =
          let i : c / bid_numbers < n = omega arith in
          let small : c % bid_numbers < bid_numbers = omega arith in
          row_moved (column_cell n c) (column_inside c l)
          ∙ rw (column_moved c l, digits_mod (column_of (c % bid_numbers)) i, digits_div (column_of (c % bid_numbers)) i, column_twice (c % bid_numbers) small) (omega arith)
      go (more l) = ap (row_cell n) (column_kept c l) ∙ row_kept c l

  column_of_row : (c : ℕ) → column_cell n (row_cell n c) ≡ c
  column_of_row c = go (lt? c (bid_numbers * n))
    where
      go : {t : Bool} → Lt? c (bid_numbers * n) t → column_cell n (row_cell n c) ≡ c
      go (less l) =
          let some : 0 < n = omega arith in
          let few : c / n < bid_numbers = (div-lt_iff_lt-mul some).1 l in
          let place : (bid_numbers * (c % n) + column_of (c / n)) % bid_numbers ≡ column_of (c / n) = omega (arith, column_small (c / n)) in
          let bid : (bid_numbers * (c % n) + column_of (c / n)) / bid_numbers ≡ c % n = omega (arith, column_small (c / n)) in
          column_moved (row_cell n c) (row_inside c l)
          ∙ rw (row_moved c l, place, bid, column_twice (c / n) few) (div-add-mod' c n)
      go (more l) = ap (column_cell n) (row_kept c l) ∙ column_kept c l

  -- on a sheet that holds the bids
  pub columns_renumber : (cells : ℕ) → bid_numbers * n ≤ cells → Renumbering cells (column_cell n) (row_cell n)
  columns_renumber cells room = record {
    undone = row_of_column;
    redone = column_of_row;
    inside = λ c l. new c l (lt? c (bid_numbers * n));
    back_inside = λ c l. old c l (lt? c (bid_numbers * n));
  }
    where
      new : (c : ℕ) → c < cells → {t : Bool} → Lt? c (bid_numbers * n) t → column_cell n c < cells
      new c l (less h) = omega (arith, column_inside c h)
      new c l (more h) = omega (arith, column_kept c h)

      old : (c : ℕ) → c < cells → {t : Bool} → Lt? c (bid_numbers * n) t → row_cell n c < cells
      old c l (less h) = omega (arith, row_inside c h)
      old c l (more h) = omega (arith, row_kept c h)
