-- Every text fits in the room that the calls ask for (`listing_fits`, `refused_fits`).
use Rattle.std.specs.Prelude.{ℕ, zero, suc, ◌+◌, ◌*◌, ◌≤◌, ◌<◌, Bool, true, false, cond, List, [], ◌∷◌, ◌++◌, length, ℤ, pos}
use Rattle.std.proofs.Common.{arith, length-append}
use Rattle.std.specs.Int.Signed.{lt_z}
use Rattle.definitions.specs.Limits.{bid_limit, pool_limit}
use Rattle.definitions.specs.Arithmetic.{join_to}
use Rattle.definitions.specs.Book.{in_hundredths}
use Rattle.definitions.specs.Settle.{decimal, decimal_z, newline, none_word, bid_line, flow_line, price_text, price_line, welfare_line, bid_lines, flow_lines, price_lines, listing, refused_text}
use Rattle.listing.specs.Digits.{decimal_length, signed_length, two_digits}
use Rattle.listing.specs.Lines.{last_field, bid_at, flow_at, price_at, row_lines}
use Rattle.listing.specs.Text.{text_room}

-- ---- each line

last_length : (z : ℤ) → length (last_field z) ≤ 23
last_length z = omega (arith, length-append (decimal_z z) newline, signed_length z)

bid_length : (bid : ℕ) (z : ℤ) → bid < 100 → length (bid_line bid z) ≤ 29
unfolding bid_line
bid_length bid z h = omega (arith, length-append (decimal bid) (last_field z), two_digits bid h, last_length z)

flow_length : (from to : ℕ) (z : ℤ) → length (flow_line from to z) ≤ 69
unfolding flow_line
flow_length from to z = go (lt_z (pos 0) z)
  where
    go : (t : Bool) → length (cond t (108 ∷ 105 ∷ 110 ∷ 101 ∷ 32 ∷ (decimal from ++ (32 ∷ (decimal to ++ last_field z)))) []) ≤ 69
    go true =
        omega (
          arith,
          length-append (decimal from) (32 ∷ (decimal to ++ last_field z)),
          length-append (decimal to) (last_field z),
          decimal_length from,
          decimal_length to,
          last_length z,
        )
    go false = omega arith

price_text_length : (price hundredths presence : ℤ) → length (price_text price hundredths presence) ≤ 21
price_text_length price hundredths presence = go (lt_z (pos 0) presence)
  where
    go : (t : Bool) → length (cond t (decimal_z (in_hundredths price hundredths)) none_word) ≤ 21
    go true = signed_length (in_hundredths price hundredths)
    go false = omega arith

price_length : (pool : ℕ) (price hundredths presence : ℤ) → length (price_line pool price hundredths presence) ≤ 49
unfolding price_line
price_length pool price hundredths presence =
    omega (
      arith,
      length-append (decimal pool) (32 ∷ (price_text price hundredths presence ++ newline)),
      length-append (price_text price hundredths presence) newline,
      decimal_length pool,
      price_text_length price hundredths presence,
    )

welfare_length : (w : ℤ) → length (welfare_line w) ≤ 30
unfolding welfare_line
welfare_length w = omega (arith, last_length w)

-- ---- all lines

lines_length : (k most : ℕ) (line : ℕ → List ℕ) → ((i : ℕ) → i < k → length (line i) ≤ most) → length (join_to k line) ≤ k * most
unfolding join_to
lines_length zero most line h = omega arith
lines_length (suc k) most line h =
    omega (arith, length-append (join_to k line) (line k), lines_length k most line (λ i l. h i (omega arith)), h k (omega arith))

bids_length : (n : ℕ) (results : List ℤ) → n ≤ bid_limit → length (bid_lines n results) ≤ n * 29
unfolding bid_lines
bids_length n results h = lines_length n 29 (bid_at results) (λ i l. bid_length (i + 1) _ (omega arith))

row_length : (n m a : ℕ) (results : List ℤ) → length (row_lines n m a results) ≤ m * 69
unfolding row_lines
row_length n m a results = lines_length m 69 (flow_at n m a results) (λ b l. flow_length (a + 1) (b + 1) _)

flows_length : (n m : ℕ) (results : List ℤ) → m ≤ pool_limit → length (flow_lines n m results) ≤ m * 276
unfolding flow_lines row_lines
flows_length n m results h = lines_length m 276 (λ a. row_lines n m a results) (λ a l. omega (arith, row_length n m a results))

prices_length : (n m : ℕ) (results : List ℤ) → length (price_lines n m results) ≤ m * 49
unfolding price_lines
prices_length n m results = lines_length m 49 (price_at n m results) (λ p l. price_length (p + 1) _ _ _)

-- of any results and any welfare
pub listing_fits : (n m : ℕ) (results : List ℤ) (w : ℤ) → n ≤ bid_limit → m ≤ pool_limit → length (listing n m results w) ≤ text_room
unfolding listing
listing_fits n m results w h k =
    omega (
      arith,
      length-append (bid_lines n results) (flow_lines n m results ++ (price_lines n m results ++ welfare_line w)),
      length-append (flow_lines n m results) (price_lines n m results ++ welfare_line w),
      length-append (price_lines n m results) (welfare_line w),
      bids_length n results h,
      flows_length n m results k,
      prices_length n m results,
      welfare_length w,
    )

pub refused_fits : (number place : ℕ) → length (refused_text number place) ≤ text_room
unfolding refused_text
refused_fits number place =
    omega (
      arith,
      length-append (decimal number) (32 ∷ (decimal place ++ newline)),
      length-append (decimal place) newline,
      decimal_length number,
      decimal_length place,
    )
