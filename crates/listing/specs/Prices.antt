-- A pool's price as the code has it, in hundredths, none where it is missing (`priced`), and that its line is the one of document 02 (`price_shown`).
use Rattle.std.specs.Prelude.{ℕ, ◌≡◌, refl, Bool, true, false, cond, List, ◌++◌, ℤ, pos, Some, None}
use Rattle.std.specs.declared.option.Option.{Option}
use Rattle.std.specs.Int.Signed.{lt_z}
use Rattle.definitions.specs.Book.{in_hundredths}
use Rattle.definitions.specs.Settle.{decimal, decimal_z, space, newline, price_word, none_word, price_line}

-- a pool's price, none unless its presence is above 0
abbrev pub priced : (price hundredths presence : ℤ) → Option ℤ
priced price hundredths presence = cond (lt_z (pos 0) presence) (Some (in_hundredths price hundredths)) None

-- its text
abbrev pub priced_text : Option ℤ → List ℕ
priced_text (Some price) = decimal_z price
priced_text None = none_word

-- the line of a pool with this text for its price
abbrev line_with : (pool : ℕ) (text : List ℕ) → List ℕ
line_with pool text = price_word ++ (space ++ (decimal pool ++ (space ++ (text ++ newline))))

-- of a pool with this price
abbrev pub pool_line : (pool : ℕ) → Option ℤ → List ℕ
pool_line pool price = line_with pool (priced_text price)

pub price_shown : (pool : ℕ) (price hundredths presence : ℤ) → pool_line pool (priced price hundredths presence) ≡ price_line pool price hundredths presence
unfolding price_line
price_shown pool price hundredths presence = go (lt_z (pos 0) presence) (in_hundredths price hundredths)
  where
    go : (t : Bool) (z : ℤ) → line_with pool (priced_text (cond t (Some z) None)) ≡ line_with pool (cond t (decimal_z z) none_word)
    go true z = refl
    go false z = refl
