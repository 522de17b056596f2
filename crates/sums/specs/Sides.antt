-- The two sides of the exchange: which bids are on each, the running sum of the welfare, one side after the other, and what a bid adds to it.
use Rattle.std.specs.Prelude.{ℕ, ◌+◌, ◌*◌, ◌^◌, ◌≤◌, ◌≡◌, refl, Bool, true, false, not, cond, List, length, get_or, ℤ, pos, neg_ℤ, nat_abs, ◌+ℤ◌, ◌*ℤ◌}
use Rattle.std.proofs.Common.{arith, add-one}
use Rattle.std.specs.Int.Signed.{lt_z}
use Rattle.sums.specs.declared.side.Side.{Side}
use Rattle.sums.specs.declared.side.Side.TheVariants.{Sales, Purchases}
use Rattle.definitions.specs.Limits.{hundred, quantity_limit}
use Rattle.definitions.specs.Book.{in_hundredths, price, quantity}
use Rattle.definitions.specs.RunningSum.{running_sum, sum_of_sales, sum_with_purchases, sales_welfare}
use Rattle.laws.specs.IntegerSize.{size_neg, size_add, size_product}
use Rattle.sums.specs.BidsOnly.{bids_only}

-- a bid of this quantity is on the side asked for
abbrev pub on_side : Side → (quantity : ℤ) → Bool
on_side Sales quantity = not (lt_z (pos 0) quantity)
on_side Purchases quantity = lt_z (pos 0) quantity

-- a value as a bid of this side adds it: it is taken off for a sale
abbrev pub side_value : Side → ℤ → ℤ
side_value Sales value = neg_ℤ value
side_value Purchases value = value

-- what one bid adds to the sum of a side: price × accepted, the price in hundredths, 0 if it is on the other side
abbrev pub side_part : Side → (price quantity : ℤ) (accepted : ℕ) → ℤ
side_part side price quantity accepted = cond (on_side side quantity) (side_value side (price *ℤ pos accepted)) (pos 0)

-- ---- the running sum

-- document 02's running sum after the first k bids: of the sales, and then of the purchases too
unfoldable pub sum_of_side : Side → (bids : List ℤ) (accepted : List ℕ) → (k : ℕ) → ℤ
sum_of_side Sales bids accepted = sum_of_sales (bids_only (length accepted) 0 bids) (λ i. get_or accepted i 0)
sum_of_side Purchases bids accepted = sum_with_purchases (bids_only (length accepted) 0 bids) (λ i. get_or accepted i 0)

module _ (bids : List ℤ) (accepted : List ℕ) where
  pub sales_begin : sum_of_side Sales bids accepted 0 ≡ pos 0
  unfolding sum_of_side sum_of_sales running_sum
  sales_begin = refl

  -- the purchases go on from the last sale
  pub purchases_begin : sum_of_side Purchases bids accepted 0 ≡ sum_of_side Sales bids accepted (length accepted)
  unfolding sum_of_side sum_with_purchases sales_welfare running_sum
  purchases_begin = refl

  -- one bid more, at the code's k + 1
  pub sum_of_side_next : (side : Side) (k : ℕ) → let B = bids_only (length accepted) 0 bids in
      sum_of_side side bids accepted (k + 1) ≡ sum_of_side side bids accepted k +ℤ side_part side (price B k) (quantity B k) (get_or accepted k 0)
  unfolding sum_of_side sum_of_sales sum_with_purchases running_sum
  sum_of_side_next Sales k = rw (add-one k) refl
  sum_of_side_next Purchases k = rw (add-one k) refl

-- ---- sizes

-- a bid adds to one side alone
pub one_side : (price quantity : ℤ) (accepted : ℕ) → nat_abs (side_part Sales price quantity accepted) + nat_abs (side_part Purchases price quantity accepted) ≡ nat_abs (price *ℤ pos accepted)
one_side price quantity accepted = go (lt_z (pos 0) quantity) (price *ℤ pos accepted)
  where
    go : (t : Bool) (v : ℤ) → nat_abs (cond (not t) (neg_ℤ v) (pos 0)) + nat_abs (cond t v (pos 0)) ≡ nat_abs v
    go true v = omega arith
    go false v = omega (arith, size_neg v)

-- no price in hundredths is greater: its parts are 32-bit numbers
abbrev pub price_bound : ℕ
price_bound = (hundred + 1) * 2 ^ 31

pub price_bounded : (whole hundredths : ℤ) → nat_abs whole ≤ 2 ^ 31 → nat_abs hundredths ≤ 2 ^ 31 → nat_abs (in_hundredths whole hundredths) ≤ price_bound
price_bounded whole hundredths h k = omega (arith, size_add (whole *ℤ pos hundred) hundredths, size_product whole (pos hundred) (2 ^ 31) hundred h (omega arith), k)

-- no bid adds more
abbrev pub value_limit : ℕ
value_limit = price_bound * quantity_limit

pub part_small : (side : Side) (price quantity : ℤ) (accepted : ℕ) → nat_abs price ≤ price_bound → accepted ≤ quantity_limit
    → nat_abs (side_part side price quantity accepted) ≤ value_limit
part_small Sales price quantity accepted h l = omega (arith, one_side price quantity accepted, size_product price (pos accepted) price_bound quantity_limit h l)
part_small Purchases price quantity accepted h l = omega (arith, one_side price quantity accepted, size_product price (pos accepted) price_bound quantity_limit h l)
