-- Settle's input and listing on single texts, by computation.
use Rattle.std.proofs.Common.{◌≡◌, refl, [], ◌∷◌, pos, neg_ℤ}
use Rattle.definitions.specs.Arithmetic.{sum_z, join_to}
use Rattle.definitions.specs.Book.{book}
use Rattle.definitions.specs.Examples.{book_two, text_two, printed_two}
use Rattle.definitions.specs.Answers.{refuse}
use Rattle.definitions.specs.declared.Order.TheVariants.{Constant}
use Rattle.definitions.specs.Sheet.{sealed_sheet}
use Rattle.definitions.specs.Clearing.{welfare}
use Rattle.definitions.specs.Machine.{run_of}
use Rattle.definitions.specs.Calls.{seal_refusal, bids_refusal, capacities_refusal, row_refusal, first_from, opened_results}
use Rattle.definitions.specs.Plan.{Plan}
use Rattle.definitions.specs.Outcome.{plan_run, clear_welfare}
use Rattle.definitions.specs.Settle.{words, words_from, digits_from, whole_of, word_numbers, unreadable, refused, readable, settle_input, decimal_to, decimal, decimal_z, bid_line, flow_line, price_line, welfare_line, bid_lines, flow_lines, price_lines, listing, refused_text, unreadable_text, input_text, settle_text}

-- example 2 is read
pub read_two : settle_input text_two ≡ readable book_two
unfolding text_two book_two settle_input words words_from whole_of digits_from word_numbers
read_two = refl

-- blanks around and -0; then texts in this order: `007 9 x`, `999 1 x`, `999 1x`, `999 -1`, `999`, ``, `0 1 5 x`, `0 1`, `0 1 2147483648`, `0 1 --3`, `0 1 +3`, `0 1 -`, `0 1(tab)0`, `0 1 -2147483648`
inputs :
    settle_input (32 ∷ 10 ∷ 48 ∷ 32 ∷ 49 ∷ 10 ∷ 45 ∷ 48 ∷ 32 ∷ [])
    ∷ settle_input (48 ∷ 48 ∷ 55 ∷ 32 ∷ 57 ∷ 32 ∷ 120 ∷ [])
    ∷ settle_input (57 ∷ 57 ∷ 57 ∷ 32 ∷ 49 ∷ 32 ∷ 120 ∷ [])
    ∷ settle_input (57 ∷ 57 ∷ 57 ∷ 32 ∷ 49 ∷ 120 ∷ [])
    ∷ settle_input (57 ∷ 57 ∷ 57 ∷ 32 ∷ 45 ∷ 49 ∷ [])
    ∷ settle_input (57 ∷ 57 ∷ 57 ∷ [])
    ∷ settle_input []
    ∷ settle_input (48 ∷ 32 ∷ 49 ∷ 32 ∷ 53 ∷ 32 ∷ 120 ∷ [])
    ∷ settle_input (48 ∷ 32 ∷ 49 ∷ [])
    ∷ settle_input (48 ∷ 32 ∷ 49 ∷ 32 ∷ 50 ∷ 49 ∷ 52 ∷ 55 ∷ 52 ∷ 56 ∷ 51 ∷ 54 ∷ 52 ∷ 56 ∷ [])
    ∷ settle_input (48 ∷ 32 ∷ 49 ∷ 32 ∷ 45 ∷ 45 ∷ 51 ∷ [])
    ∷ settle_input (48 ∷ 32 ∷ 49 ∷ 32 ∷ 43 ∷ 51 ∷ [])
    ∷ settle_input (48 ∷ 32 ∷ 49 ∷ 32 ∷ 45 ∷ [])
    ∷ settle_input (48 ∷ 32 ∷ 49 ∷ 9 ∷ 48 ∷ [])
    ∷ settle_input (48 ∷ 32 ∷ 49 ∷ 32 ∷ 45 ∷ 50 ∷ 49 ∷ 52 ∷ 55 ∷ 52 ∷ 56 ∷ 51 ∷ 54 ∷ 52 ∷ 56 ∷ [])
    ∷ []
    ≡ readable (book 0 1 [] (pos 0 ∷ []))
    ∷ refused (refuse 2 0)
    ∷ refused (refuse 1 0)
    ∷ unreadable
    ∷ unreadable
    ∷ unreadable
    ∷ unreadable
    ∷ unreadable
    ∷ unreadable
    ∷ unreadable
    ∷ unreadable
    ∷ unreadable
    ∷ unreadable
    ∷ unreadable
    ∷ readable (book 0 1 [] (neg_ℤ (pos 2147483648) ∷ []))
    ∷ []
unfolding settle_input words words_from whole_of digits_from word_numbers
inputs = refl

-- the listing of example 2, in full
pub listed_two : listing 2 2 (pos 3 ∷ pos 3 ∷ pos 0 ∷ pos 3 ∷ pos 0 ∷ pos 0 ∷ pos 20 ∷ pos 0 ∷ pos 1 ∷ pos 30 ∷ pos 0 ∷ pos 1 ∷ []) (pos 3000) ≡ printed_two
unfolding printed_two listing bid_lines flow_lines price_lines join_to bid_line flow_line price_line welfare_line decimal_z decimal decimal_to
listed_two = refl

-- three pools without a line, at 20.05, without a price, at −2.75: each has its own three results
prices_listed :
    price_lines 0 3
    (pos 0 ∷ pos 0 ∷ pos 0 ∷ pos 0 ∷ pos 0 ∷ pos 0 ∷ pos 0 ∷ pos 0 ∷ pos 0
    ∷ pos 20 ∷ pos 5 ∷ pos 1 ∷ pos 30 ∷ pos 7 ∷ pos 0 ∷ neg_ℤ (pos 3) ∷ pos 25 ∷ pos 1 ∷ [])
    ≡ 112 ∷ 114 ∷ 105 ∷ 99 ∷ 101 ∷ 32 ∷ 49 ∷ 32 ∷ 50 ∷ 48 ∷ 48 ∷ 53 ∷ 10
    ∷ 112 ∷ 114 ∷ 105 ∷ 99 ∷ 101 ∷ 32 ∷ 50 ∷ 32 ∷ 110 ∷ 111 ∷ 110 ∷ 101 ∷ 10
    ∷ 112 ∷ 114 ∷ 105 ∷ 99 ∷ 101 ∷ 32 ∷ 51 ∷ 32 ∷ 45 ∷ 50 ∷ 55 ∷ 53 ∷ 10 ∷ []
unfolding price_lines join_to price_line decimal_z decimal decimal_to
prices_listed = refl

-- negative numbers, "−3 with 25", and a price that is missing
negatives : price_line 4 (neg_ℤ (pos 30000)) (pos 0) (pos 1) ∷ price_line 1 (neg_ℤ (pos 3)) (pos 25) (pos 1) ∷ price_line 2 (pos 0) (pos 0) (pos 0) ∷ welfare_line (neg_ℤ (pos 125829120000)) ∷ refused_text 15 4095 ∷ []
    ≡ (112 ∷ 114 ∷ 105 ∷ 99 ∷ 101 ∷ 32 ∷ 52 ∷ 32 ∷ 45 ∷ 51 ∷ 48 ∷ 48 ∷ 48 ∷ 48 ∷ 48 ∷ 48 ∷ 10 ∷ []) ∷ (112 ∷ 114 ∷ 105 ∷ 99 ∷ 101 ∷ 32 ∷ 49 ∷ 32 ∷ 45 ∷ 50 ∷ 55 ∷ 53 ∷ 10 ∷ []) ∷ (112 ∷ 114 ∷ 105 ∷ 99 ∷ 101 ∷ 32 ∷ 50 ∷ 32 ∷ 110 ∷ 111 ∷ 110 ∷ 101 ∷ 10 ∷ []) ∷ (119 ∷ 101 ∷ 108 ∷ 102 ∷ 97 ∷ 114 ∷ 101 ∷ 32 ∷ 45 ∷ 49 ∷ 50 ∷ 53 ∷ 56 ∷ 50 ∷ 57 ∷ 49 ∷ 50 ∷ 48 ∷ 48 ∷ 48 ∷ 48 ∷ 10 ∷ []) ∷ (114 ∷ 101 ∷ 102 ∷ 117 ∷ 115 ∷ 101 ∷ 100 ∷ 32 ∷ 49 ∷ 53 ∷ 32 ∷ 52 ∷ 48 ∷ 57 ∷ 53 ∷ 10 ∷ []) ∷ []
unfolding price_line welfare_line refused_text decimal_z decimal decimal_to
negatives = refl

-- a plan that accepts 6 and 6 at a price of 20.05, and what is printed with it for example 1, `2 1 1 20 -10 0 1 30 6 0 0`; then for the same with three
-- numbers a bid, `2 1 1 20 -10 1 30 6 0`, for a bid with the hundredths 100, `1 1 1 5 5 100 0`, for `0 1 5`, `65 1` and `x`
six : Plan
six n m = Constant 9 6 ∷ Constant 10 6 ∷ Constant 12 20 ∷ Constant 13 5 ∷ Constant 14 1 ∷ []

printed :
    settle_text six (50 ∷ 32 ∷ 49 ∷ 32 ∷ 49 ∷ 32 ∷ 50 ∷ 48 ∷ 32 ∷ 45 ∷ 49 ∷ 48 ∷ 32 ∷ 48 ∷ 32 ∷ 49 ∷ 32 ∷ 51 ∷ 48 ∷ 32 ∷ 54 ∷ 32 ∷ 48 ∷ 32 ∷ 48 ∷ [])
    ∷ settle_text six (50 ∷ 32 ∷ 49 ∷ 32 ∷ 49 ∷ 32 ∷ 50 ∷ 48 ∷ 32 ∷ 45 ∷ 49 ∷ 48 ∷ 32 ∷ 49 ∷ 32 ∷ 51 ∷ 48 ∷ 32 ∷ 54 ∷ 32 ∷ 48 ∷ [])
    ∷ settle_text six (49 ∷ 32 ∷ 49 ∷ 32 ∷ 49 ∷ 32 ∷ 53 ∷ 32 ∷ 53 ∷ 32 ∷ 49 ∷ 48 ∷ 48 ∷ 32 ∷ 48 ∷ [])
    ∷ settle_text six (48 ∷ 32 ∷ 49 ∷ 32 ∷ 53 ∷ [])
    ∷ settle_text six (54 ∷ 53 ∷ 32 ∷ 49 ∷ [])
    ∷ settle_text six (120 ∷ [])
    ∷ []
    ≡ (98 ∷ 105 ∷ 100 ∷ 32 ∷ 49 ∷ 32 ∷ 54 ∷ 10 ∷ 98 ∷ 105 ∷ 100 ∷ 32 ∷ 50 ∷ 32 ∷ 54 ∷ 10
    ∷ 112 ∷ 114 ∷ 105 ∷ 99 ∷ 101 ∷ 32 ∷ 49 ∷ 32 ∷ 50 ∷ 48 ∷ 48 ∷ 53 ∷ 10 ∷ 119 ∷ 101 ∷ 108 ∷ 102 ∷ 97 ∷ 114 ∷ 101 ∷ 32 ∷ 54 ∷ 48 ∷ 48 ∷ 48 ∷ 10 ∷ [])
    ∷ (117 ∷ 110 ∷ 114 ∷ 101 ∷ 97 ∷ 100 ∷ 97 ∷ 98 ∷ 108 ∷ 101 ∷ 10 ∷ [])
    ∷ (114 ∷ 101 ∷ 102 ∷ 117 ∷ 115 ∷ 101 ∷ 100 ∷ 32 ∷ 53 ∷ 32 ∷ 49 ∷ 10 ∷ [])
    ∷ (114 ∷ 101 ∷ 102 ∷ 117 ∷ 115 ∷ 101 ∷ 100 ∷ 32 ∷ 56 ∷ 32 ∷ 49 ∷ 10 ∷ [])
    ∷ (114 ∷ 101 ∷ 102 ∷ 117 ∷ 115 ∷ 101 ∷ 100 ∷ 32 ∷ 49 ∷ 32 ∷ 48 ∷ 10 ∷ [])
    ∷ (117 ∷ 110 ∷ 114 ∷ 101 ∷ 97 ∷ 100 ∷ 97 ∷ 98 ∷ 108 ∷ 101 ∷ 10 ∷ [])
    ∷ []
unfolding six settle_text input_text settle_input words words_from whole_of digits_from word_numbers seal_refusal bids_refusal capacities_refusal row_refusal first_from opened_results plan_run run_of sealed_sheet clear_welfare welfare sum_z listing bid_lines flow_lines price_lines join_to bid_line flow_line price_line welfare_line refused_text unreadable_text decimal_z decimal decimal_to
printed = refl
