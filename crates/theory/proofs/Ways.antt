-- Reaching as it is computed, over more and more pools, is reaching by steps of any number (`reaches_says`, `reaches_made`).
use Rattle.std.specs.Prelude.{◌≡◌, refl, Bool, true, ◌&&◌, ◌||◌, ◌⊎◌, ℕ, zero, suc, ◌≤◌, ◌<◌, eqb}
use Rattle.std.proofs.Common.{sym, ap, ◌∙◌, subst, inl, inr, arith, eq-or-lt_of_le, eqb-true, eq-eqb}
use Rattle.std.proofs.Math.Nat.{suc_inj}
use Rattle.std.proofs.lemmas.Bool.{or_left, or_right, or_cases}
use Rattle.definitions.specs.Book.{Book}
use Rattle.definitions.specs.PoolPrice.{one_step, reaches_over, reaches}
use Rattle.theory.specs.Choices.{and_both, and_made}
use Rattle.theory.specs.Reachable.{Reaches, itself, step}

module _ (B : Book) (f : ℕ → ℕ → ℕ) where
  -- ---- what is computed is a way

  -- a way after a way
  further : {q a b : ℕ} → Reaches B f q a → Reaches B f a b → Reaches B f q b
  further w itself = w
  further w (step a b l r v h) = step a b l r (further w v) h

  way_over : (k : ℕ) → k ≤ B.m → (q p : ℕ) → q < B.m → p < B.m → reaches_over B f k q p ≡ true → Reaches B f q p
  unfolding reaches_over
  way_over zero h q p l r e = go (or_cases (eqb q p) (one_step B f q p) e)
    where
      go : (eqb q p ≡ true) ⊎ (one_step B f q p ≡ true) → Reaches B f q p
      go (inl z) = subst (Reaches B f q) (eqb-true q p z) itself
      go (inr z) = step q p l r itself z
  way_over (suc k) h q p l r e = go (or_cases (reaches_over B f k q p) (reaches_over B f k q k && reaches_over B f k k p) e) (way_over k (omega arith))
    where
      go : (reaches_over B f k q p ≡ true) ⊎ ((reaches_over B f k q k && reaches_over B f k k p) ≡ true)
          → ((a b : ℕ) → a < B.m → b < B.m → reaches_over B f k a b ≡ true → Reaches B f a b) → Reaches B f q p
      go (inl z) way = way q p l r z
      go (inr z) way =
          let both = and_both (reaches_over B f k q k) (reaches_over B f k k p) z in
          further (way q k l (omega arith) both.0) (way k p (omega arith) r both.1)

  pub reaches_says : (q p : ℕ) → q < B.m → p < B.m → reaches B f q p ≡ true → Reaches B f q p
  unfolding reaches
  reaches_says q p l r e = way_over B.m (omega arith) q p l r e

  -- ---- every way is computed: two over the first k pools that meet in one of these are one over them

  -- ways over the first k pools to r and from r are one
  abbrev Joins : ℕ → Type 0
  Joins k = (q r p : ℕ) → r < k → reaches_over B f k q r ≡ true → reaches_over B f k r p ≡ true → reaches_over B f k q p ≡ true

  joined : (k : ℕ) → Joins k
  unfolding reaches_over
  joined zero q r p l a b = absurd (omega arith)
  joined (suc k) q r p l a b =
      go (eq-or-lt_of_le l) (or_cases (R q r) (R q k && R k r) a) (or_cases (R r p) (R r k && R k p) b) (joined k)
    where
      R : ℕ → ℕ → Bool
      R = reaches_over B f k

      -- without pool k, and by way of it
      direct : R q p ≡ true → (R q p || (R q k && R k p)) ≡ true
      direct e = or_left (R q p) (R q k && R k p) e

      by_last : R q k ≡ true → R k p ≡ true → (R q p || (R q k && R k p)) ≡ true
      by_last e h = or_right (R q p) (R q k && R k p) (and_made (R q k) (R k p) e h)

      -- a way to pool k, and one from it, need not go over it
      to_last : r ≡ k → (R q r ≡ true) ⊎ ((R q k && R k r) ≡ true) → R q k ≡ true
      to_last e (inl x) = ap (R q) (sym e) ∙ x
      to_last e (inr x) = (and_both (R q k) (R k r) x).0

      from_last : r ≡ k → (R r p ≡ true) ⊎ ((R r k && R k p) ≡ true) → R k p ≡ true
      from_last e (inl x) = ap (λ (z : ℕ). R z p) (sym e) ∙ x
      from_last e (inr x) = (and_both (R r k) (R k p) x).1

      go : (suc r ≡ suc k) ⊎ (suc r < suc k) → (R q r ≡ true) ⊎ ((R q k && R k r) ≡ true) → (R r p ≡ true) ⊎ ((R r k && R k p) ≡ true) → Joins k
          → (R q p || (R q k && R k p)) ≡ true
      go (inl e) x y ih = by_last (to_last (suc_inj e) x) (from_last (suc_inj e) y)
      go (inr e) (inl x) (inl y) ih = direct (ih q r p (omega arith) x y)
      go (inr e) (inl x) (inr y) ih = let v = and_both (R r k) (R k p) y in by_last (ih q r k (omega arith) x v.0) v.1
      go (inr e) (inr x) (inl y) ih = let u = and_both (R q k) (R k r) x in by_last u.0 (ih k r p (omega arith) u.1 y)
      go (inr e) (inr x) (inr y) ih = by_last (and_both (R q k) (R k r) x).0 (and_both (R r k) (R k p) y).1

  -- what needs no other pool
  grown : (k q p : ℕ) → reaches_over B f 0 q p ≡ true → reaches_over B f k q p ≡ true
  unfolding reaches_over
  grown zero q p e = e
  grown (suc k) q p e = or_left (reaches_over B f k q p) (reaches_over B f k q k && reaches_over B f k k p) (grown k q p e)

  pub reaches_made : {q p : ℕ} → Reaches B f q p → reaches B f q p ≡ true
  unfolding reaches reaches_over
  reaches_made {q} itself = grown B.m q q (or_left (eqb q q) (one_step B f q q) (eq-eqb q q refl))
  reaches_made {q} (step a b l r w h) = joined B.m q a b l (reaches_made w) (grown B.m a b (or_right (eqb a b) (one_step B f a b) h))
