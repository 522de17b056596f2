-- Decimal digits: how many there are at most, and that std prints the same ones.
use Rattle.std.specs.Prelude.{List, ◌^◌, ℕ, zero, suc, ◌+◌, ◌/◌, ◌%◌, ◌≤◌, ◌<◌, ◌≡◌, Bool, cond, [], ◌∷◌, ◌++◌, length, ℤ, pos, negsuc}
use Rattle.std.proofs.Common.{sym, ap, arith, length-append, lt-ltb, le-ltb}
use Rattle.std.specs.Int.Signed.{mag}
use Rattle.std.specs.Fmt as std
use Rattle.std.proofs.lemmas.Fmt.{AppendsLastDigit, decimal_from_appends, length-decimal-le}
use Rattle.definitions.specs.Settle.{decimal_to, decimal, decimal_z}
use Rattle.laws.specs.Tests.{Lt?, less, more, lt?}

-- the digits are those of std's numbers: the last one behind the others
pub last_digit : AppendsLastDigit decimal_to
unfolding decimal_to
last_digit = record { one = λ k v l. simp (lt-ltb v 10 l); more = λ k v l. simp (le-ltb v 10 l) }

-- ---- how many there are

pub digits_at_most : (k v : ℕ) → length (decimal_to k v) ≤ k
unfolding decimal_to
digits_at_most zero v = omega arith
digits_at_most (suc k) v = go (lt? v 10) (digits_at_most k (v / 10))
  where
    go : {t : Bool} → Lt? v 10 t → length (decimal_to k (v / 10)) ≤ k → length (cond t ((48 + v) ∷ []) (decimal_to k (v / 10) ++ ((48 + v % 10) ∷ []))) ≤ suc k
    go (less l) h = omega arith
    go (more l) h = omega (arith, length-append (decimal_to k (v / 10)) ((48 + v % 10) ∷ []))

-- a number has at most 20 digits, with a minus at most 21 bytes
pub decimal_length : (v : ℕ) → length (decimal v) ≤ 20
unfolding decimal
decimal_length v = digits_at_most 20 v

pub signed_length : (z : ℤ) → length (decimal_z z) ≤ 21
unfolding decimal_z
signed_length (pos v) = omega (arith, decimal_length v)
signed_length (negsuc v) = omega (arith, decimal_length (suc v))

-- one below 100 has at most 2
pub two_digits : (v : ℕ) → v < 100 → length (decimal v) ≤ 2
unfolding decimal decimal_to
two_digits v h = go (lt? v 10)
  where
    go : {t : Bool} → Lt? v 10 t → length (cond t ((48 + v) ∷ []) (decimal_to 19 (v / 10) ++ ((48 + v % 10) ∷ []))) ≤ 2
    go (less l) = omega arith
    go (more l) =
        omega (
          arith,
          length-append (decimal_to 19 (v / 10)) ((48 + v % 10) ∷ []),
          ap length (last_digit.one 18 (v / 10) (omega arith)),
        )

-- ---- std prints the same digits

pub decimal_printed : (v : ℕ) → v < 2 ^ 64 → std.decimal v ≡ decimal v
unfolding decimal
decimal_printed v h = sym (decimal_from_appends decimal_to last_digit 20 v h (length-decimal-le 20 v (omega arith) (omega arith) h))

pub signed_printed : (z : ℤ) → mag z < 2 ^ 63 → std.signed_decimal z ≡ decimal_z z
unfolding decimal_z
signed_printed (pos v) h = decimal_printed v (omega arith)
signed_printed (negsuc v) h = ap (λ (l : List ℕ). 45 ∷ l) (decimal_printed (suc v) (omega arith))
