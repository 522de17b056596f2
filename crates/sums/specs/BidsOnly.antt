-- A book of bids alone: what changes hands in its pools, its welfare and that of its sales are those of every book with these bids, whatever its lines
-- carry.
use Rattle.std.specs.Prelude.{ℕ, ◌≡◌, List, [], ℤ, refl}
use Rattle.definitions.specs.Book.{Book, book}
use Rattle.definitions.specs.Clearing.{sold, bought, inflow, outflow, welfare}
use Rattle.definitions.specs.RunningSum.{sum_of_sales, sales_welfare}

abbrev pub bids_only : (n m : ℕ) (bids : List ℤ) → Book
bids_only n m bids = book n m bids []

module _ (B : Book) (n : ℕ) (count : n ≡ B.n) where
  pub sold_of : (x : ℕ → ℕ) (p : ℕ) → sold (bids_only n B.m B.bids) x p ≡ sold B x p
  unfolding sold
  sold_of x p = rw count refl

  pub bought_of : (x : ℕ → ℕ) (p : ℕ) → bought (bids_only n B.m B.bids) x p ≡ bought B x p
  unfolding bought
  bought_of x p = rw count refl

  pub inflow_of : (f : ℕ → ℕ → ℕ) (p : ℕ) → inflow (bids_only n B.m B.bids) f p ≡ inflow B f p
  unfolding inflow
  inflow_of f p = refl

  pub outflow_of : (f : ℕ → ℕ → ℕ) (p : ℕ) → outflow (bids_only n B.m B.bids) f p ≡ outflow B f p
  unfolding outflow
  outflow_of f p = refl

  pub welfare_of : (m : ℕ) (x : ℕ → ℕ) → welfare (bids_only n m B.bids) x ≡ welfare B x
  unfolding welfare
  welfare_of m x = rw count refl

  pub sales_welfare_of : (m : ℕ) (x : ℕ → ℕ) → sales_welfare (bids_only n m B.bids) x ≡ sales_welfare B x
  unfolding sales_welfare sum_of_sales
  sales_welfare_of m x = rw count refl
