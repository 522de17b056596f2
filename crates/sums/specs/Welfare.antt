-- The welfare summed sales first ends at formula (1) (`end_figure_is`). No running sum of a feasible clearing is greater in size than its welfare may be, so
-- each fits an i64 (`running_sums_fit`). And what a withdrawn bid adds, and a sale of negative price.
use Rattle.std.specs.Prelude.{ℕ, zero, suc, ◌+◌, ◌*◌, ◌≤◌, ◌<◌, ◌≡◌, refl, Bool, true, false, cond, ℤ, pos, negsuc, neg_ℤ, nat_abs, ◌+ℤ◌, ◌*ℤ◌}
use Rattle.std.proofs.Common.{sym, ap, ap₂, subst, ◌∙◌, ltb-true, arith, le_trans, mul-le-mul_right, SFits}
use Rattle.std.proofs.Math.IntN.{+ℤ_idl, +ℤ_comm, neg_ℤ-+ℤ, neg_ℤ-neg_ℤ, *ℤ-zero, negsuc-*ℤ-pos}
use Rattle.std.specs.Int.{w64}
use Rattle.std.specs.Int.Signed.{lt_z}
use Rattle.definitions.specs.Limits.{bid_limit, price_limit, quantity_limit}
use Rattle.definitions.specs.Arithmetic.{sum_to, sum_z}
use Rattle.definitions.specs.Book.{Book, price, quantity, sale}
use Rattle.definitions.specs.Calls.{AcceptedBook}
use Rattle.definitions.specs.Clearing.{Clearing, Feasible, value, welfare}
use Rattle.definitions.specs.RunningSum.{running_sum, sale_part, purchase_part, sum_of_sales, sales_welfare, sum_with_purchases, end_figure}
use Rattle.laws.specs.AcceptedBook.{Sound, accepted_sound}
use Rattle.laws.specs.IntegerSize.{fits_size, size_product}
use Rattle.laws.specs.RunningSum.{running_sum_is, running_sum_size}
use Rattle.laws.specs.Sum.{sum_add, sum_bound, sum_prefix}
use Rattle.sums.specs.Sides.{one_side}

module _ (B : Book) (accepted : ℕ → ℕ) where
  -- ---- the end

  -- formula (1)'s sum over sales, of the first k bids
  abbrev taken : ℕ → ℤ
  taken k = sum_z k (λ i. cond (sale B i) (value B accepted i) (pos 0))

  negated : (t : Bool) (v : ℤ) → cond t (neg_ℤ v) (pos 0) ≡ neg_ℤ (cond t v (pos 0))
  negated true v = refl
  negated false v = refl

  taken_off : (k : ℕ) → sum_z k (sale_part B accepted) ≡ neg_ℤ (taken k)
  unfolding sum_z
  taken_off zero = refl
  taken_off (suc k) =
      ap₂ ◌+ℤ◌ (taken_off k) (negated (sale B k) (value B accepted k))
      ∙ sym (neg_ℤ-+ℤ (taken k) (cond (sale B k) (value B accepted k) (pos 0)))

  -- the welfare of the sales alone is formula (1)'s second sum, taken off
  pub sales_welfare_is : sales_welfare B accepted ≡ neg_ℤ (sum_z B.n (λ i. cond (sale B i) (value B accepted i) (pos 0)))
  unfolding sales_welfare sum_of_sales
  sales_welfare_is = running_sum_is (pos 0) (sale_part B accepted) B.n ∙ +ℤ_idl (sum_z B.n (sale_part B accepted)) ∙ taken_off B.n

  -- "The end figure is still formula (1)."
  pub end_figure_is : end_figure B accepted ≡ welfare B accepted
  unfolding end_figure sum_with_purchases welfare
  end_figure_is =
      let paid : ℤ = sum_z B.n (purchase_part B accepted) in
      running_sum_is (sales_welfare B accepted) (purchase_part B accepted) B.n
      ∙ ap (λ (z : ℤ). z +ℤ paid) sales_welfare_is
      ∙ +ℤ_comm (neg_ℤ (taken B.n)) paid

  -- ---- signs

  -- a sale of negative price raises the sum, by the price's size × accepted
  pub negative_price_raises : (i : ℕ) → sale B i ≡ true → lt_z (price B i) (pos 0) ≡ true
      → sum_of_sales B accepted (suc i) ≡ sum_of_sales B accepted i +ℤ pos (nat_abs (price B i) * accepted i)
  unfolding sum_of_sales running_sum
  negative_price_raises i s e = ap (λ (z : ℤ). sum_of_sales B accepted i +ℤ z) (rw s (go (price B i) e))
    where
      go : (z : ℤ) → lt_z z (pos 0) ≡ true → neg_ℤ (z *ℤ pos (accepted i)) ≡ pos (nat_abs z * accepted i)
      go (pos a) e = absurd (let none : a < 0 = ltb-true a 0 e in omega arith)
      go (negsuc a) e = ap neg_ℤ (negsuc-*ℤ-pos a (accepted i)) ∙ neg_ℤ-neg_ℤ (pos (suc a * accepted i))

  -- ---- sizes

  abbrev sale_size : ℕ → ℕ
  sale_size i = nat_abs (sale_part B accepted i)

  abbrev purchase_size : ℕ → ℕ
  purchase_size i = nat_abs (purchase_part B accepted i)

  -- with prices and amounts within their limits
  module _ (few : B.n ≤ bid_limit) (prices : (i : ℕ) → i < B.n → nat_abs (price B i) ≤ price_limit) (amounts : (i : ℕ) → i < B.n → accepted i ≤ quantity_limit) where
    parts_small : (i : ℕ) → i < B.n → sale_size i + purchase_size i ≤ price_limit * quantity_limit
    parts_small i l =
        omega (
          arith,
          one_side (price B i) (quantity B i) (accepted i),
          size_product (price B i) (pos (accepted i)) price_limit quantity_limit (prices i l) (amounts i l),
        )

    -- both sides together
    sides_small : sum_to B.n sale_size + sum_to B.n purchase_size ≤ bid_limit * (price_limit * quantity_limit)
    sides_small =
        omega (
          arith,
          sum_add B.n sale_size purchase_size,
          le_trans (sum_bound B.n (price_limit * quantity_limit) (λ i. sale_size i + purchase_size i) parts_small) (mul-le-mul_right (price_limit * quantity_limit) few),
        )

    after_sales_small : (k : ℕ) → k ≤ B.n → nat_abs (sum_of_sales B accepted k) ≤ bid_limit * (price_limit * quantity_limit)
    unfolding sum_of_sales
    after_sales_small k h = omega (arith, running_sum_size (pos 0) (sale_part B accepted) k, sum_prefix k B.n sale_size h, sides_small)

    after_purchases_small : (k : ℕ) → k ≤ B.n → nat_abs (sum_with_purchases B accepted k) ≤ bid_limit * (price_limit * quantity_limit)
    unfolding sum_with_purchases sales_welfare sum_of_sales
    after_purchases_small k h =
        omega (
          arith,
          running_sum_size (sales_welfare B accepted) (purchase_part B accepted) k,
          running_sum_size (pos 0) (sale_part B accepted) B.n,
          sum_prefix k B.n purchase_size h,
          sides_small,
        )

-- a sum that is bounded by the limits, and so fits a signed 64-bit number
pub record Bounded (sum : ℤ) : Type 0 where
  pub small : nat_abs sum ≤ bid_limit * (price_limit * quantity_limit)
  pub fits : SFits w64 sum

bounded : (sum : ℤ) → nat_abs sum ≤ bid_limit * (price_limit * quantity_limit) → Bounded sum
bounded sum h = record { small = h; fits = fits_size w64 sum (omega (arith, h)) }

module _ (B : Book) (accepted : AcceptedBook B) (c : Clearing) (feasible : Feasible B c) where
  sound : Sound B
  sound = accepted_sound B accepted

  amounts_small : (i : ℕ) → i < B.n → c.accepted i ≤ quantity_limit
  amounts_small i l = omega (arith, feasible.amounts i l, sound.size_small i l)

  -- every running sum, after each sale and then after each purchase
  pub running_sums_fit : (k : ℕ) → k ≤ B.n → Bounded (sum_of_sales B c.accepted k) × Bounded (sum_with_purchases B c.accepted k)
  running_sums_fit k h = (
    bounded (sum_of_sales B c.accepted k) (after_sales_small B c.accepted sound.bids sound.price_size amounts_small k h),
    bounded (sum_with_purchases B c.accepted k) (after_purchases_small B c.accepted sound.bids sound.price_size amounts_small k h),
  )

  -- so the welfare fits too
  pub welfare_fits : SFits w64 (welfare B c.accepted)
  unfolding end_figure
  welfare_fits = subst (SFits w64) (end_figure_is B c.accepted) (running_sums_fit B.n (omega arith)).1.fits

  -- "0 is a withdrawn bid and counts as a sale of 0": it is a sale, and adds nothing
  pub withdrawn_adds_nothing : (i : ℕ) → i < B.n → quantity B i ≡ pos 0
      → (sale B i ≡ true) × (sale_part B c.accepted i ≡ pos 0) × (purchase_part B c.accepted i ≡ pos 0)
  withdrawn_adds_nothing i l e =
      let none : c.accepted i ≡ 0 = omega (arith, feasible.amounts i l, ap nat_abs e) in
      (rw e refl, rw (e, none) (ap neg_ℤ (*ℤ-zero (price B i))), rw e refl)
