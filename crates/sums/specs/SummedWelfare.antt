-- Accepted amounts whose welfare can be summed in 64 bits, whatever the prices, and that sum (`summed`): of a book within its limits it is the welfare by
-- formula (1), or that of the sales alone (`summed_is`).
use Rattle.std.specs.Prelude.{ℕ, ◌*◌, ◌≤◌, ◌<◌, ◌≡◌, refl, Bool, true, cond, ◌&&◌, List, eqb, leb, length, get_or, ℤ, pos, Decides, EachIndex}
use Rattle.std.proofs.Common.{◌∙◌, arith, eq-eqb, eqb-true, le-leb, leb-true}
use Rattle.std.proofs.lemmas.Bool.Decides.{same_from_decides}
use Rattle.definitions.specs.Limits.{bid_limit, quantity_limit, bid_numbers}
use Rattle.definitions.specs.Arithmetic.{all_to}
use Rattle.definitions.specs.Book.{Book}
use Rattle.definitions.specs.Clearing.{welfare}
use Rattle.definitions.specs.RunningSum.{sales_welfare}
use Rattle.laws.specs.All.{all_to_at, all_to_made}
use Rattle.std.specs.Cmp.{first_so, second_so}
use Rattle.laws.specs.SameAmounts.{welfare_same, sales_welfare_same}
use Rattle.sums.specs.BidsOnly.{bids_only, welfare_of, sales_welfare_of}

-- no amount is above the limit on a bid's size
unfoldable pub amounts_small : List ℕ → Bool
amounts_small accepted = all_to (length accepted) (λ i. leb (get_or accepted i 0) quantity_limit)

pub amounts_small_decided : (t : Bool) (accepted : List ℕ) → Decides t (EachIndex accepted (λ i. get_or accepted i 0 ≤ quantity_limit)) → t ≡ amounts_small accepted
unfolding amounts_small
amounts_small_decided t accepted d =
    same_from_decides t (amounts_small accepted) d
    (λ e i l. leb-true _ _ (all_to_at (length accepted) _ e i l), λ h. all_to_made (length accepted) _ (λ i l. le-leb _ _ (h i l)))

-- few enough of them, with a bid table of their number
unfoldable pub amounts_fit : (bids : List ℤ) (accepted : List ℕ) → Bool
amounts_fit bids accepted = leb (length accepted) bid_limit && (eqb (length bids) (bid_numbers * length accepted) && amounts_small accepted)

-- a sum over a book's bids and their accepted amounts, if these can be summed, else 0
unfoldable pub summed : (sum : Book → (ℕ → ℕ) → ℤ) (bids : List ℤ) (accepted : List ℕ) → ℤ
summed sum bids accepted = cond (amounts_fit bids accepted) (sum (bids_only (length accepted) 0 bids) (λ i. get_or accepted i 0)) (pos 0)

-- such a sum: nothing but the bids and the amounts of the book's bids counts
pub record OverBids (sum : Book → (ℕ → ℕ) → ℤ) : Type 0 where
  pub of_bids : (B : Book) (n : ℕ) → n ≡ B.n → (m : ℕ) (x : ℕ → ℕ) → sum (bids_only n m B.bids) x ≡ sum B x
  pub of_amounts : (B : Book) (x y : ℕ → ℕ) → ((i : ℕ) → i < B.n → x i ≡ y i) → sum B x ≡ sum B y

pub welfare_over_bids : OverBids welfare
welfare_over_bids = record { of_bids = welfare_of; of_amounts = welfare_same }

pub sales_over_bids : OverBids sales_welfare
sales_over_bids = record { of_bids = sales_welfare_of; of_amounts = sales_welfare_same }

-- the counts and amounts of a book that fit: it is the book's sum, of amounts that are listed
module _ {sum : Book → (ℕ → ℕ) → ℤ} (over : OverBids sum) (B : Book) (few : B.n ≤ bid_limit) (table : length B.bids ≡ bid_numbers * B.n) where
  fit : (accepted : List ℕ) → length accepted ≡ B.n → ((i : ℕ) → i < B.n → get_or accepted i 0 ≤ quantity_limit) → amounts_fit B.bids accepted ≡ true
  unfolding amounts_fit amounts_small
  fit accepted count small =
      rw (
        le-leb (length accepted) bid_limit (omega (arith, count, few)),
        eq-eqb (length B.bids) (bid_numbers * length accepted) (omega (arith, count, table)),
        all_to_made (length accepted) (λ i. leb (get_or accepted i 0) quantity_limit) (λ i l. le-leb _ _ (small i (omega (arith, count)))),
      ) refl

  pub summed_is : (accepted : List ℕ) (x : ℕ → ℕ) → length accepted ≡ B.n → ((i : ℕ) → i < B.n → get_or accepted i 0 ≡ x i) → ((i : ℕ) → i < B.n → x i ≤ quantity_limit)
      → summed sum B.bids accepted ≡ sum B x
  unfolding summed
  summed_is accepted x count listed small =
      rw (fit accepted count (λ i l. omega (arith, listed i l, small i l)))
      (over.of_bids B (length accepted) count 0 (λ i. get_or accepted i 0) ∙ over.of_amounts B (λ i. get_or accepted i 0) x listed)

-- what is known of bids and amounts that can be summed
pub record AmountsFit (bids : List ℤ) (accepted : List ℕ) : Type 0 where
  pub few : length accepted ≤ bid_limit
  pub table : length bids ≡ bid_numbers * length accepted
  pub small : (i : ℕ) → i < length accepted → get_or accepted i 0 ≤ quantity_limit

pub amounts_fit_lem : (bids : List ℤ) (accepted : List ℕ) → amounts_fit bids accepted ≡ true → AmountsFit bids accepted
unfolding amounts_fit amounts_small
amounts_fit_lem bids accepted e =
    let rest = second_so (leb (length accepted) bid_limit) _ e in
    let table = eqb (length bids) (bid_numbers * length accepted) in
    record {
      few = leb-true _ _ (first_so (leb (length accepted) bid_limit) _ e);
      table = eqb-true _ _ (first_so table _ rest);
      small = λ i l. leb-true _ _ (all_to_at (length accepted) _ (second_so table _ rest) i l);
    }
