-- A sheet that opening does not refuse: its results are those defined, and there is a listing of them wherever there is room.
use Rattle.std.specs.Prelude.{ℕ, ◌≡◌, refl, List, leb, length, ℤ}
use Rattle.std.proofs.Common.{sym, ap, ◌∙◌}
use Rattle.definitions.specs.Answers.{Refusal, none, unless}
use Rattle.definitions.specs.Calls.{open_refusal, opened_results, open_slice}
use Rattle.definitions.specs.Settle.{listing}
use Rattle.listing.specs.Text.{text_room, text_size, text_slice, listable, listing_size, listing_slice}
use Rattle.opening.specs.Openable.{openable, opened_length}

module _ (n m : ℕ) (sheet : List ℕ) (results : ℕ) (opens : open_refusal n m sheet results ≡ none) where
  pub opened : (out : List ℤ) → length out ≡ results → open_slice n m sheet out ≡ opened_results n m sheet
  unfolding open_slice
  opened out e = ap (λ (r : Refusal). unless r (opened_results n m sheet) out) (ap (open_refusal n m sheet) e ∙ opens)

  pub listed : (room : ℕ) → listable n m (length (opened_results n m sheet)) room ≡ leb text_room room
  unfolding listable
  listed room =
      let h = openable n m sheet results opens in
      rw (opened_length n m sheet results opens ∙ sym h.sizes.count, h.judged) refl

  -- the listing of what opening left, with a welfare written otherwise
  module _ (left : List ℤ) (w v : ℤ) (out : List ℕ) (same : left ≡ opened_results n m sheet) (welfare : w ≡ v) where
    pub listed_size : listing_size n m left w (length out) ≡ text_size (leb text_room (length out)) (listing n m (opened_results n m sheet) v)
    unfolding listing_size
    listed_size = rw (same, welfare, listed (length out)) refl

    pub listed_slice : listing_slice n m left w out ≡ text_slice (leb text_room (length out)) (listing n m (opened_results n m sheet) v) out
    unfolding listing_slice
    listed_slice = rw (same, welfare, listed (length out)) refl
