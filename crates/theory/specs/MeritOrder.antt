-- The merit order at raised prices: a strict total order, compared by two keys.
use Rattle.std.specs.Prelude.{◌≡◌, Bool, true, false, ◌&&◌, ◌||◌, ◌≢◌, ◌⊎◌, ℕ, ◌+◌, ◌*◌, ◌≤◌, ◌<◌, eqb, ltb, refl}
use Rattle.std.proofs.Common.{sym, true≢false, arith, eq-or-lt_of_le, inl, inr, lt-ltb, le-ltb, eq-eqb, ltb-true, eqb-true}
use Rattle.std.proofs.Math.Decide.{dec_lt}
use Rattle.definitions.specs.Arithmetic.{on}
use Rattle.laws.specs.Tests.{is_false, on_le}
use Rattle.theory.specs.StrictOrder.{StrictTotal}
use Rattle.std.specs.Cmp.{both_ways}

-- at equal price: sales before purchases, sales by lower number, purchases by higher number
unfoldable pub tie : Bool → Bool → ℕ → ℕ → Bool
tie false false j i = ltb j i
tie false true j i = true
tie true false j i = false
tie true true j i = ltb i j

-- is bid j before bid i? By price, then by the rule for equal prices
unfoldable pub merit : (ℕ → ℕ) → (ℕ → Bool) → ℕ → ℕ → Bool
merit price purchase j i = ltb (price j) (price i) || (eqb (price j) (price i) && tie (purchase j) (purchase i) j i)

-- what it says
abbrev Tie : Bool → Bool → ℕ → ℕ → Type 0
Tie false false j i = j < i
Tie false true j i = Unit {0}
Tie true false j i = ⊥
Tie true true j i = i < j

tie_says : (s t : Bool) (j i : ℕ) → tie s t j i ≡ true → Tie s t j i
unfolding tie
tie_says false false j i e = ltb-true j i e
tie_says false true j i e = tt
tie_says true false j i e = absurd (true≢false (sym e))
tie_says true true j i e = ltb-true i j e

says_tie : (s t : Bool) (j i : ℕ) → Tie s t j i → tie s t j i ≡ true
unfolding tie
says_tie false false j i e = lt-ltb j i e
says_tie false true j i e = refl
says_tie true false j i e = absurd e
says_tie true true j i e = lt-ltb i j e

tie_transitive : (s t r : Bool) (i j k : ℕ) → Tie s t i j → Tie t r j k → Tie s r i k
tie_transitive false false false i j k p q = omega arith
tie_transitive false false true i j k p q = tt
tie_transitive false true false i j k p q = absurd q
tie_transitive false true true i j k p q = tt
tie_transitive true false r i j k p q = absurd p
tie_transitive true true false i j k p q = absurd q
tie_transitive true true true i j k p q = omega arith

-- of two numbers that differ one is the lesser
apart : (i j : ℕ) → i ≢ j → (i < j) ⊎ (j < i)
apart i j h = elim (dec_lt i j) [
  | yes p ↦ inl p
  | no p ↦ inr (omega arith)
]

tie_connected : (s t : Bool) (i j : ℕ) → i ≢ j → Tie s t i j ⊎ Tie t s j i
tie_connected false true i j h = inl tt
tie_connected true false i j h = inr tt
tie_connected false false i j h = apart i j h
tie_connected true true i j h = apart j i (λ e. h (sym e))

tie_irreflexive : (s : Bool) (i : ℕ) → Tie s s i i → ⊥
tie_irreflexive true i h = omega arith
tie_irreflexive false i h = omega arith

or_split : (x y z : Bool) → (x || (y && z)) ≡ true → (x ≡ true) ⊎ ((y ≡ true) × (z ≡ true))
or_split true y z e = inl refl
or_split false true z e = inr (refl, e)
or_split false false z e = absurd (true≢false (sym e))

-- of a lower and of a higher bid number: one comparison of keys says the same (s and t: bids j and i are purchases)
low_says : (s t : Bool) (p q j i : ℕ) → j < i → (p < q) ⊎ ((p ≡ q) × Tie s t j i) → 2 * p + on s 1 < 2 * q + 1
low_says s t p q j i l (inl h) = omega (arith, on_le s 1)
low_says true true p q j i l (inr h) = omega (arith, h.1)
low_says true false p q j i l (inr h) = absurd h.1
low_says false t p q j i l (inr h) = omega (arith, h.0)

-- p ≤ q, and what more holds if they are equal
settled : {A : Type 0} (p q : ℕ) → p ≤ q → (p ≡ q → A) → (p < q) ⊎ ((p ≡ q) × A)
settled p q h t = go (eq-or-lt_of_le h) t
  where
    go : {A : Type 0} → (p ≡ q) ⊎ (p < q) → (p ≡ q → A) → (p < q) ⊎ ((p ≡ q) × A)
    go (inl e) t = inr (e, t e)
    go (inr e) t = inl e

says_low : (s t : Bool) (p q j i : ℕ) → j < i → 2 * p + on s 1 < 2 * q + 1 → (p < q) ⊎ ((p ≡ q) × Tie s t j i)
says_low true t p q j i l h = inl (omega arith)
says_low false true p q j i l h = settled p q (omega arith) (λ e. tt)
says_low false false p q j i l h = settled p q (omega arith) (λ e. l)

high_says : (s t : Bool) (p q j i : ℕ) → i < j → (p < q) ⊎ ((p ≡ q) × Tie s t j i) → 2 * p < 2 * q + on t 1
high_says s t p q j i l (inl h) = omega arith
high_says s true p q j i l (inr h) = omega (arith, h.0)
high_says true false p q j i l (inr h) = absurd h.1
high_says false false p q j i l (inr h) = omega (arith, h.1)

says_high : (s t : Bool) (p q j i : ℕ) → i < j → 2 * p < 2 * q + on t 1 → (p < q) ⊎ ((p ≡ q) × Tie s t j i)
says_high s false p q j i l h = inl (omega arith)
says_high true true p q j i l h = settled p q (omega arith) (λ e. l)
says_high false true p q j i l h = settled p q (omega arith) (λ e. tt)

module _ (price : ℕ → ℕ) (purchase : ℕ → Bool) where
  abbrev Ahead : ℕ → ℕ → Type 0
  Ahead j i = (price j < price i) ⊎ ((price j ≡ price i) × Tie (purchase j) (purchase i) j i)

  merit_says : (j i : ℕ) → merit price purchase j i ≡ true → Ahead j i
  unfolding merit
  merit_says j i e = go (or_split (ltb (price j) (price i)) (eqb (price j) (price i)) (tie (purchase j) (purchase i) j i) e)
    where
      go : (ltb (price j) (price i) ≡ true) ⊎ ((eqb (price j) (price i) ≡ true) × (tie (purchase j) (purchase i) j i ≡ true)) → Ahead j i
      go (inl h) = inl (ltb-true (price j) (price i) h)
      go (inr h) = inr (eqb-true (price j) (price i) h.0, tie_says (purchase j) (purchase i) j i h.1)

  says_merit : (j i : ℕ) → Ahead j i → merit price purchase j i ≡ true
  unfolding merit
  says_merit j i (inl h) = rw (lt-ltb (price j) (price i) h) refl
  says_merit j i (inr h) =
      rw (eq-eqb (price j) (price i) h.0, says_tie (purchase j) (purchase i) j i h.1, le-ltb (price j) (price i) (omega arith)) refl

  ahead_transitive : (i j k : ℕ) → Ahead i j → Ahead j k → Ahead i k
  ahead_transitive i j k (inl p) (inl q) = inl (omega arith)
  ahead_transitive i j k (inl p) (inr q) = inl (omega arith)
  ahead_transitive i j k (inr p) (inl q) = inl (omega arith)
  ahead_transitive i j k (inr p) (inr q) = inr (omega arith, tie_transitive (purchase i) (purchase j) (purchase k) i j k p.1 q.1)

  ahead_connected : (i j : ℕ) → i ≢ j → Ahead i j ⊎ Ahead j i
  ahead_connected i j h = go (dec_lt (price i) (price j)) (dec_lt (price j) (price i)) (tie_connected (purchase i) (purchase j) i j h)
    where
      go : Dec (price i < price j) → Dec (price j < price i) → Tie (purchase i) (purchase j) i j ⊎ Tie (purchase j) (purchase i) j i → Ahead i j ⊎ Ahead j i
      go (yes p) d t = inl (inl p)
      go (no p) (yes q) t = inr (inl q)
      go (no p) (no q) (inl t) = inl (inr (omega arith, t))
      go (no p) (no q) (inr t) = inr (inr (omega arith, t))

  ahead_irreflexive : (i : ℕ) → Ahead i i → ⊥
  ahead_irreflexive i (inl p) = omega arith
  ahead_irreflexive i (inr p) = tie_irreflexive (purchase i) i p.1

  pub merit_order : (n : ℕ) → StrictTotal n (merit price purchase)
  merit_order n = record {
    irreflexive = λ i l. is_false (merit price purchase i i) (λ e. ahead_irreflexive i (merit_says i i e));
    transitive = λ i j k l r q e f. says_merit i k (ahead_transitive i j k (merit_says i j e) (merit_says j k f));
    connected = λ i j l r h. connected i j (ahead_connected i j h);
  }
    where
      connected : (i j : ℕ) → Ahead i j ⊎ Ahead j i → (merit price purchase i j ≡ true) ⊎ (merit price purchase j i ≡ true)
      connected i j (inl h) = inl (says_merit i j h)
      connected i j (inr h) = inr (says_merit j i h)

  pub merit_rises : (i j : ℕ) → merit price purchase j i ≡ true → price j ≤ price i
  merit_rises i j e = go (merit_says j i e)
    where
      go : Ahead j i → price j ≤ price i
      go (inl h) = omega arith
      go (inr h) = omega arith

  -- two keys compare merit; ClosedForms has the key of a book's bid
  abbrev pub key : ℕ → ℕ
  key i = 2 * price i + on (purchase i) 1

  pub key_low : (j i : ℕ) → j < i → merit price purchase j i ≡ ltb (key j) (2 * price i + 1)
  key_low j i l = both_ways (merit price purchase j i) (ltb (key j) (2 * price i + 1))
      (λ e. lt-ltb (key j) (2 * price i + 1) (low_says (purchase j) (purchase i) (price j) (price i) j i l (merit_says j i e)))
      (λ e. says_merit j i (says_low (purchase j) (purchase i) (price j) (price i) j i l (ltb-true (key j) (2 * price i + 1) e)))

  pub key_high : (j i : ℕ) → i < j → merit price purchase j i ≡ ltb (2 * price j) (key i)
  key_high j i l = both_ways (merit price purchase j i) (ltb (2 * price j) (key i))
      (λ e. lt-ltb (2 * price j) (key i) (high_says (purchase j) (purchase i) (price j) (price i) j i l (merit_says j i e)))
      (λ e. says_merit j i (says_high (purchase j) (purchase i) (price j) (price i) j i l (ltb-true (2 * price j) (key i) e)))

-- a higher price comes later: whoever was ahead still is
pub merit_raise : (price price' : ℕ → ℕ) (purchase purchase' : ℕ → Bool) (j i : ℕ) → price i ≤ price' i → price' j ≡ price j → purchase' j ≡ purchase j → purchase' i ≡ purchase i
    → merit price purchase j i ≡ true → merit price' purchase' j i ≡ true
merit_raise price price' purchase purchase' j i h s u v e = says_merit price' purchase' j i (rw (u, v) (go (merit_says price purchase j i e) (eq-or-lt_of_le h)))
  where
    go : (price j < price i) ⊎ ((price j ≡ price i) × Tie (purchase j) (purchase i) j i) → (price i ≡ price' i) ⊎ (price i < price' i)
        → (price' j < price' i) ⊎ ((price' j ≡ price' i) × Tie (purchase j) (purchase i) j i)
    go (inl a) d = inl (omega arith)
    go (inr a) (inl d) = inr (omega arith, a.1)
    go (inr a) (inr d) = inl (omega arith)
