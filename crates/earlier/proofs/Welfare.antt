-- The welfare of a widened book, in hundredths, is 100 times what it was (`welfare_hundred`).
use Rattle.std.specs.Prelude.{ℕ, zero, suc, ◌+◌, ◌*◌, ◌≡◌, refl, Bool, true, false, cond, ℤ, pos, negsuc, neg_ℤ, ◌+ℤ◌, ◌-ℤ◌, ◌*ℤ◌}
use Rattle.std.proofs.Common.{sym, ap, ap₂, ◌∙◌, arith, zero-mul}
use Rattle.std.proofs.Math.IntN.{+ℤ_idr}
use Rattle.std.proofs.lemmas.Int.{ints}
use Rattle.definitions.specs.Limits.{hundred}
use Rattle.definitions.specs.Arithmetic.{sum_z}
use Rattle.definitions.specs.Book.{in_hundredths, purchase, sale}
use Rattle.definitions.specs.Clearing.{value, welfare}
use Rattle.earlier.specs.Earlier as earlier
use Rattle.earlier.specs.Widened.{widened_book}
use Rattle.earlier.proofs.Bids.{price_is, purchase_same, sale_same}

-- ---- whole numbers, 100 times

negative_times : (k a : ℕ) → neg_ℤ (pos k) *ℤ pos a ≡ neg_ℤ (pos (k * a))
negative_times zero a = rw (zero-mul a) refl
negative_times (suc k) a = refl

times_hundred : (x : ℤ) (a : ℕ) → in_hundredths x (pos 0) *ℤ pos a ≡ x *ℤ pos a *ℤ pos hundred
times_hundred (pos k) a = ap pos (let e : (k * hundred + 0) * a ≡ k * a * hundred = omega arith in e)
times_hundred (negsuc k) a =
    ap (λ (z : ℤ). z *ℤ pos a) (+ℤ_idr (neg_ℤ (pos (suc k * hundred))))
    ∙ negative_times (suc k * hundred) a
    ∙ ap (λ (v : ℕ). neg_ℤ (pos v)) (let e : suc k * hundred * a ≡ suc k * a * hundred = omega arith in e)
    ∙ sym (negative_times (suc k * a) hundred)

plus_hundred : (x y : ℤ) → x *ℤ pos hundred +ℤ y *ℤ pos hundred ≡ (x +ℤ y) *ℤ pos hundred
plus_hundred x y = omega (arith, ints)

minus_hundred : (x y : ℤ) → x *ℤ pos hundred -ℤ y *ℤ pos hundred ≡ (x -ℤ y) *ℤ pos hundred
minus_hundred x y = omega (arith, ints)

sum_hundred : (n : ℕ) (f h : ℕ → ℤ) → ((i : ℕ) → f i ≡ h i *ℤ pos hundred) → sum_z n f ≡ sum_z n h *ℤ pos hundred
unfolding sum_z
sum_hundred zero f h e = refl
sum_hundred (suc n) f h e = ap₂ ◌+ℤ◌ (sum_hundred n f h e) (e n) ∙ plus_hundred (sum_z n h) (h n)

-- ---- of a bid, and of the book

module _ (B : earlier.Book) (accepted : ℕ → ℕ) where
  -- of a bid on the side that is summed, and of another
  part_hundred : (t : Bool) (i : ℕ) → cond t (value (widened_book B) accepted i) (pos 0) ≡ cond t (earlier.value B accepted i) (pos 0) *ℤ pos hundred
  part_hundred true i = rw (price_is B i) (times_hundred (earlier.price B i) (accepted i))
  part_hundred false i = refl

  -- the sum over a side of the bids, and what it was
  abbrev sum_of : (side : ℕ → Bool) → ℤ
  sum_of side = sum_z B.n (λ i. cond (side i) (value (widened_book B) accepted i) (pos 0))

  abbrev sum_was : (side : ℕ → Bool) → ℤ
  sum_was side = sum_z B.n (λ i. cond (side i) (earlier.value B accepted i) (pos 0))

  side_hundred : (side was : ℕ → Bool) → ((i : ℕ) → side i ≡ was i) → sum_of side ≡ sum_was was *ℤ pos hundred
  side_hundred side was e = sum_hundred B.n _ (λ i. cond (was i) (earlier.value B accepted i) (pos 0)) (λ i. rw (e i) (part_hundred (was i) i))

  pub welfare_hundred : welfare (widened_book B) accepted ≡ earlier.welfare B accepted *ℤ pos hundred
  unfolding welfare earlier.welfare
  welfare_hundred =
      ap₂ ◌-ℤ◌
      (side_hundred (purchase (widened_book B)) (earlier.purchase B) (purchase_same B))
      (side_hundred (sale (widened_book B)) (earlier.sale B) (sale_same B))
      ∙ minus_hundred (sum_was (earlier.purchase B)) (sum_was (earlier.sale B))
