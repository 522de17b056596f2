-- Dictionary order of amounts in merit order: from a comparison at the first difference to the order, and back.
use Rattle.std.specs.Prelude.{◌≡◌, true, ◌⊎◌, ℕ, ◌≤◌, ◌<◌}
use Rattle.std.proofs.Common.{sym, inl, inr, arith}
use Rattle.definitions.specs.Book.{Book}
use Rattle.definitions.specs.Clearing.{before, NoGreater, equal, less}
use Rattle.laws.specs.AcceptedBook.{Sound}
use Rattle.theory.specs.StrictOrder.{FirstDifference, first_difference, not_both_less}
use Rattle.theory.specs.BookNetwork.{before_strict_total}

-- ---- amounts in merit order

-- y is no greater than x if, wherever they are equal before a bid, y is at most x at that bid
pub no_greater : (B : Book) → Sound B → (y x : ℕ → ℕ)
    → ((i : ℕ) → i < B.n → ((j : ℕ) → j < B.n → before B j i ≡ true → y j ≡ x j) → y i ≤ x i) → NoGreater B y x
no_greater B ok y x h = go (first_difference B.n (before B) (before_strict_total B ok) y x)
  where
    go : ((i : ℕ) → i < B.n → y i ≡ x i) ⊎ FirstDifference B.n (before B) (before_strict_total B ok) y x → NoGreater B y x
    go (inl e) = equal e
    go (inr d) = less d.0 d.1 (omega (arith, d.2, h d.0 d.1 d.3)) d.3

pub no_greater_antisymmetric : (B : Book) → Sound B → (y x : ℕ → ℕ) → NoGreater B y x → NoGreater B x y → (i : ℕ) → i < B.n → y i ≡ x i
no_greater_antisymmetric B ok y x (equal e) b = e
no_greater_antisymmetric B ok y x (less j r q f) (equal e) = λ i l. sym (e i l)
no_greater_antisymmetric B ok y x (less i l p e) (less j r q f) = absurd (not_both_less B.n (before B) (before_strict_total B ok) y x i j l r p q e f)
