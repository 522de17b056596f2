-- What is printed is read back: the decimal text of a number within signed 32 bits is a word of that number (`printed_read_back`).
use Rattle.std.specs.Prelude.{ℕ, zero, suc, ◌+◌, ◌-◌, ◌*◌, ◌/◌, ◌%◌, ◌<◌, ◌≡◌, refl, Bool, true, false, cond, List, [], ◌∷◌, ◌++◌, leb, ℤ, pos, negsuc, neg_ℤ}
use Rattle.std.proofs.Common.{sym, ap, ◌∙◌, append_assoc, append-nil, arith, le-leb, ne_eqb, leb-true}
use Rattle.definitions.specs.Arithmetic.{within}
use Rattle.definitions.specs.Settle.{whole, digits_from, digits, signed, whole_of, decimal_to, decimal, decimal_z}
use Rattle.std.specs.Cmp.{first_so}
use Rattle.laws.specs.Tests.{Lt?, less, more, lt?}

-- the numbers of at most k digits are those below it
ten_to : (k : ℕ) → ℕ
ten_to zero = 1
ten_to (suc k) = 10 * ten_to k

-- one digit more
digit_read : (negative : Bool) (v d u : ℕ) (rest : List ℕ) → d < 10 → 10 * v + d ≡ u → digits_from negative v ((48 + d) ∷ rest) ≡ digits_from negative u rest
unfolding digits_from
digit_read negative v d u rest h e =
    rw (le-leb 48 (48 + d) (omega arith), le-leb (48 + d) 57 (omega arith))
    (ap (λ (w : ℕ). digits_from negative w rest) (let q : 10 * v + (48 + d - 48) ≡ u = omega arith in q))

-- all digits, with any bytes behind them
digits_read : (negative : Bool) (k v : ℕ) (rest : List ℕ) → v < ten_to k → digits_from negative 0 (decimal_to k v ++ rest) ≡ digits_from negative v rest
unfolding decimal_to ten_to
digits_read negative zero v rest h = ap (λ (u : ℕ). digits_from negative u rest) (let q : 0 ≡ v = omega arith in q)
digits_read negative (suc k) v rest h = go (lt? v 10) (digits_read negative k (v / 10) ((48 + v % 10) ∷ rest))
  where
    go : {t : Bool} → Lt? v 10 t → (v / 10 < ten_to k → digits_from negative 0 (decimal_to k (v / 10) ++ ((48 + v % 10) ∷ rest)) ≡ digits_from negative (v / 10) ((48 + v % 10) ∷ rest))
        → digits_from negative 0 (cond t ((48 + v) ∷ []) (decimal_to k (v / 10) ++ ((48 + v % 10) ∷ [])) ++ rest) ≡ digits_from negative v rest
    go (less l) before = digit_read negative 0 v v rest l (omega arith)
    go (more l) before =
        ap (digits_from negative 0) (append_assoc (decimal_to k (v / 10)) ((48 + v % 10) ∷ []) rest)
        ∙ before (omega arith)
        ∙ digit_read negative (v / 10) (v % 10) v rest (omega arith) (omega arith)

-- the text begins with a digit, so that it is neither empty nor begun by a minus
record Begun (text : List ℕ) : Type 0 where
  first : ℕ
  behind : List ℕ
  same : text ≡ (48 + first) ∷ behind

begins : (k v : ℕ) → Begun (decimal_to (suc k) v)
unfolding decimal_to
begins zero v = go (lt? v 10)
  where
    go : {t : Bool} → Lt? v 10 t → Begun (cond t ((48 + v) ∷ []) ((48 + v % 10) ∷ []))
    go (less l) = record { first = v; behind = []; same = refl }
    go (more l) = record { first = v % 10; behind = []; same = refl }
begins (suc k) v = go (lt? v 10) (begins k (v / 10))
  where
    go : {t : Bool} → Lt? v 10 t → Begun (decimal_to (suc k) (v / 10)) → Begun (cond t ((48 + v) ∷ []) (decimal_to (suc k) (v / 10) ++ ((48 + v % 10) ∷ [])))
    go (less l) b = record { first = v; behind = []; same = refl }
    go (more l) b = record { first = b.first; behind = b.behind ++ ((48 + v % 10) ∷ []); same = ap (λ (l : List ℕ). l ++ ((48 + v % 10) ∷ [])) b.same }

-- of a number of at most 20 digits
decimal_read : (negative : Bool) (v : ℕ) → v < ten_to 20 → digits_from negative 0 (decimal v) ≡ whole (cond negative (neg_ℤ (pos v)) (pos v))
unfolding decimal digits_from
decimal_read negative v h = ap (digits_from negative 0) (sym (append-nil (decimal_to 20 v))) ∙ digits_read negative 20 v [] h

-- behind a minus, and without one
negative_read : (text : List ℕ) → Begun text → digits true text ≡ digits_from true 0 text
negative_read text b = rw b.same refl

positive_read : (text : List ℕ) → Begun text → signed text ≡ digits_from false 0 text
positive_read text b = rw (b.same, ne_eqb (48 + b.first) 45 (λ e. omega arith)) refl

pub printed_read_back : (z : ℤ) → within (neg_ℤ (pos 2147483648)) (pos 2147483647) z ≡ true → whole_of (decimal_z z) ≡ whole z
unfolding whole_of decimal_z decimal ten_to
printed_read_back (pos v) e =
    let small = leb-true v 2147483647 e in
    rw (positive_read (decimal v) (begins 19 v), decimal_read false v (omega arith), e) refl
printed_read_back (negsuc v) e =
    let small = leb-true v 2147483647 (first_so (leb v 2147483647) true e) in
    rw (negative_read (decimal (suc v)) (begins 19 (suc v)), decimal_read true (suc v) (omega arith), e) refl
