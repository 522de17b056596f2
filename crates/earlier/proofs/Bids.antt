-- The bids of a widened book: each has the numbers that it had, and hundredths of 0.
use Rattle.std.specs.Prelude.{ℕ, suc, ◌*◌, ◌≡◌, not, ℤ, pos, nat_abs}
use Rattle.std.proofs.Common.{ap, ap₂, arith, add-zero}
use Rattle.std.specs.Int.Signed.{lt_z}
use Rattle.definitions.specs.Limits as now
use Rattle.definitions.specs.Arithmetic.{eq_z}
use Rattle.definitions.specs.Book.{pool, whole_price, quantity, hundredths, in_hundredths, price, purchase, sale, size, in_pool}
use Rattle.earlier.specs.Limits.{bid_numbers, price_place, quantity_place}
use Rattle.earlier.specs.Earlier as earlier
use Rattle.earlier.specs.Widened.{widened_book}
use Rattle.earlier.proofs.Table.{number_same, no_hundredths}

module _ (B : earlier.Book) (i : ℕ) where
  pub pool_same : pool (widened_book B) i ≡ earlier.pool B i
  pool_same = rw (add-zero (now.bid_numbers * i), add-zero (bid_numbers * i)) at (number_same B.bids i 0 (omega arith))

  pub whole_price_same : whole_price (widened_book B) i ≡ earlier.price B i
  whole_price_same = number_same B.bids i price_place (omega arith)

  pub quantity_same : quantity (widened_book B) i ≡ earlier.quantity B i
  quantity_same = number_same B.bids i quantity_place (omega arith)

  pub hundredths_none : hundredths (widened_book B) i ≡ pos 0
  hundredths_none = no_hundredths B.bids i

  pub price_is : price (widened_book B) i ≡ in_hundredths (earlier.price B i) (pos 0)
  price_is = ap₂ in_hundredths whole_price_same hundredths_none

  pub purchase_same : purchase (widened_book B) i ≡ earlier.purchase B i
  purchase_same = ap (lt_z (pos 0)) quantity_same

  pub sale_same : sale (widened_book B) i ≡ earlier.sale B i
  sale_same = ap not purchase_same

  pub size_same : size (widened_book B) i ≡ earlier.size B i
  size_same = ap nat_abs quantity_same

  pub in_pool_same : (p : ℕ) → in_pool (widened_book B) p i ≡ earlier.in_pool B p i
  in_pool_same p = ap (λ (z : ℤ). eq_z z (pos (suc p))) pool_same
