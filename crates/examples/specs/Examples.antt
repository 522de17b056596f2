-- 'Proved examples' 1 to 10 of document 01 and its 'Edges', in one statement, from the definitions and the theory of the best clearing; the prices as
-- requests 4 and 5 of document 02 have them, and what request 5 adds.
use Rattle.std.specs.Prelude.{ℕ, zero, suc, ◌*◌, ◌/◌, ◌%◌, ◌≡◌, List, [], ◌∷◌, ℤ, pos, neg_ℤ}
use Rattle.definitions.specs.declared.Order.TheVariants.{Constant}
use Rattle.definitions.specs.Limits.{cell_count}
use Rattle.definitions.specs.Book.{Book, book, in_hundredths}
use Rattle.definitions.specs.Examples.{book_one, book_two, book_three, book_four, book_five, book_six, book_seven}
use Rattle.definitions.specs.Clearing.{Clearing, Best, Permitted, welfare}
use Rattle.definitions.specs.PoolPrice.{PoolPrice, missing, present, pool_price}
use Rattle.definitions.specs.Machine.{times, less_than}
use Rattle.definitions.specs.Bytes.{order_bytes}
use Rattle.definitions.specs.Answers.{none, refuse}
use Rattle.definitions.specs.Calls.{AcceptedBook, bid_refusal, seal_refusal}
use Rattle.laws.specs.AcceptedBook.{book_of}

-- f 0, f 1, .., f (n - 1)
unfoldable pub listed : {A : Type 0} → ℕ → (ℕ → A) → List A
listed zero f = []
listed (suc n) f = f 0 ∷ listed n (λ i. f (suc i))

-- A book is accepted, has a best clearing with permitted flows, and every such clearing has these accepted amounts, flows by rows, pool prices and welfare.
pub record Cleared (B : Book) (amounts flows : List ℕ) (prices : List PoolPrice) (total : ℤ) : Type 0 where
  pub accepted : AcceptedBook B
  pub exists : (c : Clearing) × Best B c × Permitted B c
  pub accepts : (c : Clearing) → Best B c → listed B.n c.accepted ≡ amounts
  pub ships : (c : Clearing) → Best B c → Permitted B c → listed (B.m * B.m) (λ k. c.flow (k / B.m) (k % B.m)) ≡ flows
  pub priced : (c : Clearing) → Best B c → listed B.m (pool_price B c) ≡ prices
  pub worth : (c : Clearing) → Best B c → welfare B c.accepted ≡ total

-- "Two offers at 25 are equal today even if their owners meant 25.10 and 25.40": here the second is cheaper. m 1; sales at 25.40 and 25.10 of 5 each, a
-- purchase at 30 of 7
unfoldable pub book_of_two_offers : Book
book_of_two_offers =
    book 3 1 (pos 1 ∷ pos 25 ∷ neg_ℤ (pos 5) ∷ pos 40 ∷ pos 1 ∷ pos 25 ∷ neg_ℤ (pos 5) ∷ pos 10 ∷ pos 1 ∷ pos 30 ∷ pos 7 ∷ pos 0 ∷ []) (pos 0 ∷ [])

-- ---- the statement

-- "Edges: price 30,000 passes, 30,001 is 5; quantity −65,535 passes, −65,536 is 6; 64 bids pass, 65 are 1." And those of the hundredths, which come last
-- of a bid's numbers: "0 to 99"; "a price above 30,000.00" is 5.
pub record Edges : Type 0 where
  pub price_passes : bid_refusal 1 (pos 1) (pos 30000) (pos 1) (pos 0) ≡ none
  pub price_is_5 : bid_refusal 1 (pos 1) (pos 30001) (pos 1) (pos 0) ≡ refuse 5 0
  pub quantity_passes : bid_refusal 1 (pos 1) (pos 0) (neg_ℤ (pos 65535)) (pos 0) ≡ none
  pub quantity_is_6 : bid_refusal 1 (pos 1) (pos 0) (neg_ℤ (pos 65536)) (pos 0) ≡ refuse 6 0
  pub hundredths_pass : bid_refusal 1 (pos 1) (neg_ℤ (pos 30000)) (pos 1) (pos 99) ≡ none
  pub hundredths_are_5 : bid_refusal 1 (pos 1) (pos 0) (pos 1) (pos 100) ≡ refuse 5 0
  pub negative_hundredths_are_5 : bid_refusal 1 (pos 1) (pos 0) (pos 1) (neg_ℤ (pos 1)) ≡ refuse 5 0
  pub above_is_5 : bid_refusal 1 (pos 1) (pos 30000) (pos 1) (pos 1) ≡ refuse 5 0
  pub before_6 : bid_refusal 1 (pos 1) (pos 0) (pos 65536) (pos 100) ≡ refuse 5 0
  pub after_4 : bid_refusal 1 (pos 0) (pos 0) (pos 1) (pos 100) ≡ refuse 4 0
  pub bids_pass : AcceptedBook (book_of 64 1)
  pub bids_are_1 : seal_refusal (book_of 65 1) cell_count ≡ refuse 1 0

-- Welfare is in hundredths: 100 times what document 01 says.
pub record ProvedExamples : Type 0 where
  -- "m 1; (1,20,−10), (1,30,6): accepted 6, 6; welfare 60; price 20."
  pub one : Cleared book_one (6 ∷ 6 ∷ []) (0 ∷ []) (present (pos 20) (pos 0) ∷ []) (pos 6000)
  -- "m 2, line 1 to 2 carries 3, the other 0; (1,20,−10), (2,30,6): accepted 3, 3; flow 3; welfare 30"; request 4: "In example 2 of document 01
  -- the prices become 20 and 30."
  pub two : Cleared book_two (3 ∷ 3 ∷ []) (0 ∷ 3 ∷ 0 ∷ 0 ∷ []) (present (pos 20) (pos 0) ∷ present (pos 30) (pos 0) ∷ []) (pos 3000)
  -- "m 1; (1,25,−5), (1,25,5): accepted 5, 5; welfare 0."
  pub three : Cleared book_three (5 ∷ 5 ∷ []) (0 ∷ []) (present (pos 25) (pos 0) ∷ []) (pos 0)
  -- "m 1; (1,10,−5), (1,30,4), (1,30,4): accepted 5, 4, 1."
  pub four : Cleared book_four (5 ∷ 4 ∷ 1 ∷ []) (0 ∷ []) (present (pos 30) (pos 0) ∷ []) (pos 10000)
  -- "m 1; (1,−10,−4), (1,−20,4): nothing."
  pub five : Cleared book_five (0 ∷ 0 ∷ []) (0 ∷ []) (present (neg_ℤ (pos 10)) (pos 0) ∷ []) (pos 0)
  -- "m 3, 1 to 2 carries 5, 2 to 3 carries 2, else 0; (1,10,−9), (2,15,4), (3,40,6): accepted 5, 3, 2; welfare 75."
  pub six : Cleared book_six (5 ∷ 3 ∷ 2 ∷ []) (0 ∷ 5 ∷ 0 ∷ 0 ∷ 0 ∷ 2 ∷ 0 ∷ 0 ∷ 0 ∷ []) (present (pos 10) (pos 0) ∷ present (pos 15) (pos 0) ∷ present (pos 40) (pos 0) ∷ []) (pos 7500)
  -- "n 0, m 2, both lines carry 7: flows 0, prices missing, welfare 0."
  pub seven : Cleared book_seven [] (0 ∷ 0 ∷ 0 ∷ 0 ∷ []) (missing ∷ missing ∷ []) (pos 0)
  -- all of the offer at 25.10 is accepted and 2 of that at 25.40, which is the price; "welfare is in hundredths"
  pub two_offers : Cleared book_of_two_offers (2 ∷ 5 ∷ 7 ∷ []) (0 ∷ []) (present (pos 25) (pos 40) ∷ []) (pos 3370)
  -- "(−3 with 25 is −2.75)"
  pub minus_three : in_hundredths (neg_ℤ (pos 3)) (pos 25) ≡ neg_ℤ (pos 275)
  -- "46,341 times itself is 4,634 modulo p."
  pub eight : times 46341 46341 ≡ 4634
  -- "1,073,741,824 is less than 0 with sign."
  pub nine : less_than 1073741824 0 ≡ 1
  -- "Constant p − 1 to cell 300: hexadecimal 00 AC 02 FE FF FF FF 07."
  pub ten : order_bytes (Constant 300 2147483646) ≡ 0 ∷ 172 ∷ 2 ∷ 254 ∷ 255 ∷ 255 ∷ 255 ∷ 7 ∷ []
  pub edges : Edges
