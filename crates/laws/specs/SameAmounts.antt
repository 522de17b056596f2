-- The accepted amounts of a book's bids decide its welfare, and the welfare of its sales.
use Rattle.std.specs.Prelude.{◌≡◌, cond, ℕ, ◌<◌, ℤ, pos, neg_ℤ, ◌-ℤ◌, ◌*ℤ◌}
use Rattle.std.proofs.Common.{ap, ap₂}
use Rattle.definitions.specs.Book.{Book, price, purchase, sale}
use Rattle.definitions.specs.Clearing.{welfare}
use Rattle.definitions.specs.RunningSum.{sale_part, sum_of_sales, sales_welfare}
use Rattle.laws.specs.RunningSum.{running_sum_ext}
use Rattle.laws.specs.Sum.{sum_z_ext}

module _ (B : Book) (a c : ℕ → ℕ) (same : (i : ℕ) → i < B.n → a i ≡ c i) where
  pub welfare_same : welfare B a ≡ welfare B c
  unfolding welfare
  welfare_same =
      ap₂ (λ (x y : ℤ). x -ℤ y)
      (sum_z_ext B.n _ _ (λ i l. ap (λ (z : ℕ). cond (purchase B i) (price B i *ℤ pos z) (pos 0)) (same i l)))
      (sum_z_ext B.n _ _ (λ i l. ap (λ (z : ℕ). cond (sale B i) (price B i *ℤ pos z) (pos 0)) (same i l)))

  pub sales_welfare_same : sales_welfare B a ≡ sales_welfare B c
  unfolding sales_welfare sum_of_sales
  sales_welfare_same =
      running_sum_ext (pos 0) (sale_part B a) (sale_part B c) B.n
      (λ i l. ap (λ (z : ℕ). cond (sale B i) (neg_ℤ (price B i *ℤ pos z)) (pos 0)) (same i l))
