-- Whole numbers with sign, read as the natural numbers above and below zero, so that their sums and orders are facts on natural numbers.
use Rattle.std.specs.Prelude.{◌≡◌, refl, Bool, true, false, cond, ℕ, zero, suc, ◌+◌, ◌*◌, ◌-◌, ◌≤◌, ◌<◌, ltb, eqb, T, ℤ, pos, negsuc, neg_ℤ, ◌+ℤ◌, ◌-ℤ◌, ◌*ℤ◌, ◌≤ℤ◌}
use Rattle.std.proofs.Common.{sym, ap, ◌∙◌, mul-zero, zero-mul, mul-add, add-mul, arith, le→leb, leb→le, ltb-true, ltb-false, lt-ltb, le-ltb, eq-eqb, ne_eqb}
use Rattle.std.specs.Int.Signed.{le_z_yes, le_z, lt_z}
use Rattle.definitions.specs.Arithmetic.{on, sum_to, sum_z, eq_z}
use Rattle.laws.specs.SignedTests.{eq_z_true}
use Rattle.laws.specs.Tests.{Lt?, less, more, lt?, Eq?, same, diff, eq?}

-- a whole number is its positive part less its negative part, one of which is 0
abbrev pub positive_part : ℤ → ℕ
positive_part (pos n) = n
positive_part (negsuc n) = 0

-- z's size if it is below 0, else 0
abbrev pub negative_part : ℤ → ℕ
negative_part (pos n) = 0
negative_part (negsuc n) = suc n

difference_read : (a b : ℕ) {t : Bool} → Lt? a b t → positive_part (cond t (negsuc (b - suc a)) (pos (a - b))) + b ≡ a + negative_part (cond t (negsuc (b - suc a)) (pos (a - b)))
difference_read a b (less l) = omega arith
difference_read a b (more l) = omega arith

pub add_read : (x y : ℤ) → positive_part (x +ℤ y) + negative_part x + negative_part y ≡ positive_part x + positive_part y + negative_part (x +ℤ y)
add_read (pos a) (pos b) = omega arith
add_read (pos a) (negsuc b) = omega (arith, difference_read a (suc b) (lt? a (suc b)))
add_read (negsuc a) (pos b) = omega (arith, difference_read b (suc a) (lt? b (suc a)))
add_read (negsuc a) (negsuc b) = omega arith

pub negative_read : (x : ℤ) → positive_part (neg_ℤ x) + positive_part x ≡ negative_part x + negative_part (neg_ℤ x)
negative_read (pos zero) = refl
negative_read (pos (suc n)) = omega arith
negative_read (negsuc n) = omega arith

pub subtract_read : (x y : ℤ) → positive_part (x -ℤ y) + negative_part x + positive_part y ≡ positive_part x + negative_part y + negative_part (x -ℤ y)
subtract_read x y = omega (arith, add_read x (neg_ℤ y), negative_read y)

pub multiply_read : (x : ℤ) (a : ℕ) → positive_part (x *ℤ pos a) + negative_part x * a ≡ positive_part x * a + negative_part (x *ℤ pos a)
multiply_read (pos n) a = omega (arith, zero-mul a)
multiply_read (negsuc n) a = omega (arith, zero-mul a, negative_read (pos (suc n * a)))

-- ---- order

pub le_read : (x y : ℤ) → positive_part x + negative_part y ≤ positive_part y + negative_part x → x ≤ℤ y
le_read x y h = le_z_yes (go x y h)
  where
    go : (x y : ℤ) → positive_part x + negative_part y ≤ positive_part y + negative_part x → T (le_z x y)
    go (pos a) (pos b) h = le→leb a b (omega arith)
    go (pos a) (negsuc b) h = absurd (omega arith)
    go (negsuc a) (pos b) h = tt
    go (negsuc a) (negsuc b) h = le→leb b a (omega arith)

same_less : (a b c d : ℕ) → a + d ≡ c + b → {s t : Bool} → Lt? a b s → Lt? c d t → s ≡ t
same_less a b c d e (less l) (less r) = refl
same_less a b c d e (more l) (more r) = refl
same_less a b c d e (less l) (more r) = absurd (omega arith)
same_less a b c d e (more l) (less r) = absurd (omega arith)

same_equal : (a b c d : ℕ) → (a ≡ b → c ≡ d) → (c ≡ d → a ≡ b) → {s t : Bool} → Eq? a b s → Eq? c d t → s ≡ t
same_equal a b c d e f (same l) (same r) = refl
same_equal a b c d e f (diff l) (diff r) = refl
same_equal a b c d e f (same l) (diff r) = absurd (r (e l))
same_equal a b c d e f (diff l) (same r) = absurd (l (f r))

lt_read : (x y : ℤ) → lt_z x y ≡ ltb (positive_part x + negative_part y) (positive_part y + negative_part x)
lt_read (pos a) (pos b) = same_less a b (a + 0) (b + 0) (omega arith) (lt? a b) (lt? (a + 0) (b + 0))
lt_read (pos a) (negsuc b) = sym (le-ltb (a + suc b) (0 + 0) (omega arith))
lt_read (negsuc a) (pos b) = sym (lt-ltb (0 + 0) (b + suc a) (omega arith))
lt_read (negsuc a) (negsuc b) = same_less b a (0 + suc b) (0 + suc a) (omega arith) (lt? b a) (lt? (0 + suc b) (0 + suc a))

eq_read : (x y : ℤ) → eq_z x y ≡ eqb (positive_part x + negative_part y) (positive_part y + negative_part x)
eq_read (pos a) (pos b) = same_equal a b (a + 0) (b + 0) (λ e. omega arith) (λ e. omega arith) (eq? a b) (eq? (a + 0) (b + 0))
eq_read (pos a) (negsuc b) = sym (ne_eqb (a + suc b) (0 + 0) (λ e. omega arith))
eq_read (negsuc a) (pos b) = sym (ne_eqb (0 + 0) (b + suc a) (λ e. omega arith))
eq_read (negsuc a) (negsuc b) = same_equal a b (0 + suc b) (0 + suc a) (λ e. omega arith) (λ e. omega arith) (eq? a b) (eq? (0 + suc b) (0 + suc a))

read_le : (x y : ℤ) → x ≤ℤ y → positive_part x + negative_part y ≤ positive_part y + negative_part x
read_le x y h = go x y h.le
  where
    go : (x y : ℤ) → T (le_z x y) → positive_part x + negative_part y ≤ positive_part y + negative_part x
    go (pos a) (pos b) t = omega (arith, leb→le a b t)
    go (pos a) (negsuc b) t = absurd t
    go (negsuc a) (pos b) t = omega arith
    go (negsuc a) (negsuc b) t = omega (arith, leb→le b a t)

pub le_antisymmetric : (x y : ℤ) → x ≤ℤ y → y ≤ℤ x → x ≡ y
le_antisymmetric x y h k = eq_z_true x y (eq_read x y ∙ eq-eqb (positive_part x + negative_part y) (positive_part y + negative_part x) (omega (arith, read_le x y h, read_le y x k)))

pub less_le : (x y z : ℤ) → lt_z x y ≡ true → y ≤ℤ z → x ≤ℤ z
less_le x y z e h = le_read x z (omega (arith, read_le y z h, ltb-true (positive_part x + negative_part y) (positive_part y + negative_part x) (sym (lt_read x y) ∙ e)))

pub not_less : (x y : ℤ) → lt_z x y ≡ false → y ≤ℤ x
not_less x y e = le_read y x (omega (arith, ltb-false (positive_part x + negative_part y) (positive_part y + negative_part x) (sym (lt_read x y) ∙ e)))

-- ---- numbers raised by c, so that none is negative

-- h is z raised by c
abbrev pub RaisedBy : ℕ → ℤ → ℕ → Type 0
RaisedBy c z h = positive_part z + c ≡ h + negative_part z

pub raised_by : (c : ℕ) (z : ℤ) (h : ℕ) → z +ℤ pos c ≡ pos h → RaisedBy c z h
raised_by c z h e = omega (arith, add_read z (pos c), ap positive_part e, ap negative_part e)

-- the test of two numbers is that of two others that lie as far apart
less_read : (x y : ℤ) (h k : ℕ) → positive_part x + negative_part y + k ≡ h + (positive_part y + negative_part x) → lt_z x y ≡ ltb h k
less_read x y h k e =
    lt_read x y ∙ same_less (positive_part x + negative_part y) (positive_part y + negative_part x) h k e (lt? (positive_part x + negative_part y) (positive_part y + negative_part x)) (lt? h k)

pub raised_less : (c : ℕ) (x y : ℤ) (h k : ℕ) → RaisedBy c x h → RaisedBy c y k → lt_z x y ≡ ltb h k
raised_less c x y h k e f = less_read x y h k (omega arith)

-- two numbers that h and k raise to c: the lesser is raised by more
pub raised_by_less : (c : ℕ) (x y : ℤ) (h k : ℕ) → RaisedBy h x c → RaisedBy k y c → lt_z x y ≡ ltb k h
raised_by_less c x y h k e f = less_read x y k h (omega arith)

pub raised_le : (c : ℕ) (x y : ℤ) (h k : ℕ) → RaisedBy c x h → RaisedBy c y k → x ≤ℤ y → h ≤ k
raised_le c x y h k e f l = omega (arith, read_le x y l)

pub raised_equal : (c : ℕ) (x y : ℤ) (h k : ℕ) → RaisedBy c x h → RaisedBy c y k → eq_z x y ≡ eqb h k
raised_equal c x y h k e f =
    eq_read x y
    ∙ same_equal (positive_part x + negative_part y) (positive_part y + negative_part x) h k (λ q. omega arith) (λ q. omega arith)
    (eq? (positive_part x + negative_part y) (positive_part y + negative_part x)) (eq? h k)

-- ---- a sum of price × amount over the bids with a test, at prices raised by c

term_read : (t : Bool) (q : ℤ) (a c h : ℕ) → RaisedBy c q h
    → positive_part (cond t (q *ℤ pos a) (pos 0)) + c * on t a ≡ on t (h * a) + negative_part (cond t (q *ℤ pos a) (pos 0))
term_read true q a c h e = omega (arith, multiply_read q a, ap (λ (z : ℕ). z * a) e, add-mul (positive_part q) c a, add-mul h (negative_part q) a)
term_read false q a c h e = omega (arith, mul-zero c)

pub sum_read : (n : ℕ) (t : ℕ → Bool) (price : ℕ → ℤ) (a raised : ℕ → ℕ) (c : ℕ) → ((i : ℕ) → i < n → RaisedBy c (price i) (raised i))
    → positive_part (sum_z n (λ i. cond (t i) (price i *ℤ pos (a i)) (pos 0))) + c * sum_to n (λ i. on (t i) (a i))
    ≡ sum_to n (λ i. on (t i) (raised i * a i)) + negative_part (sum_z n (λ i. cond (t i) (price i *ℤ pos (a i)) (pos 0)))
unfolding sum_z sum_to
sum_read zero t price a raised c h = omega arith
sum_read (suc n) t price a raised c h =
    omega (
      arith,
      sum_read n t price a raised c (λ i l. h i (omega arith)),
      add_read (sum_z n (λ i. cond (t i) (price i *ℤ pos (a i)) (pos 0))) (cond (t n) (price n *ℤ pos (a n)) (pos 0)),
      term_read (t n) (price n) (a n) c (raised n) (h n (omega arith)),
      mul-add c (sum_to n (λ i. on (t i) (a i))) (on (t n) (a n)),
    )
