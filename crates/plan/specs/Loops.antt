-- Loops of blocks: their run, and what a list of orders leaves alone (`loop_only`).
use Rattle.std.specs.Prelude.{◌≡◌, refl, ◌≢◌, ◌⊎◌, Bool, true, false, ◌&&◌, ◌||◌, List, [], ◌∷◌, ◌++◌, ℕ, zero, suc, ◌<◌, eqb}
use Rattle.std.proofs.Common.{◌∙◌, inl, inr, not-suc-le-zero, eq-or-lt_of_le, le_of_suc-le-suc, le_refl, arith, eq-eqb}
use Rattle.std.proofs.lemmas.Bool.{false≢true}
use Rattle.plan.specs.Orders.{OrderOn, target, State, step, run}
use Rattle.plan.specs.Names.{Family, number, Name, at, family, same}

module _ {A : Type 0} where
  -- block 0, then block 1, up to block k - 1
  abbrev pub loop : ℕ → (ℕ → List A) → List A
  loop zero f = []
  loop (suc k) f = loop k f ++ f k

-- ---- runs

pub named_run_append : (x y : List (OrderOn Name)) (s : State) → run (x ++ y) s ≡ run y (run x s)
named_run_append [] y s = refl
named_run_append (o ∷ x) y s = named_run_append x y (step s o)

pub loop_invariant : (P : ℕ → State → Type 0) (k : ℕ) (f : ℕ → List (OrderOn Name)) (s : State)
    → P 0 s → ((i : ℕ) (t : State) → i < k → P i t → P (suc i) (run (f i) t)) → P k (run (loop k f) s)
loop_invariant P zero f s base turn = base
loop_invariant P (suc k) f s base turn =
    rw named_run_append (turn k (run (loop k f) s) (le_refl (suc k)) (loop_invariant P k f s base (λ i t l. turn i t (omega arith))))

-- ---- which cells are written

-- t is one of ts
abbrev pub one_of : List Family → Family → Bool
one_of [] t = false
one_of (u ∷ ts) t = eqb (number u) (number t) || one_of ts t

-- c is of one of these families
abbrev pub among : List Family → Name → Bool
among ts c = one_of ts (family c)

-- every order writes a cell that passes W
abbrev pub writes : (Name → Bool) → List (OrderOn Name) → Bool
writes W [] = true
writes W (o ∷ l) = W (target o) && writes W l

pub writes_append : (W : Name → Bool) (x y : List (OrderOn Name)) → writes W x ≡ true → writes W y ≡ true → writes W (x ++ y) ≡ true
writes_append W [] y p q = q
writes_append W (o ∷ x) y p q = go (W (target o)) p (λ r. writes_append W x y r q)
  where
    go : (t : Bool) → t && writes W x ≡ true → (writes W x ≡ true → writes W (x ++ y) ≡ true) → t && writes W (x ++ y) ≡ true
    go true p ih = ih p
    go false p ih = p

pub writes_loop : (W : Name → Bool) (k : ℕ) (f : ℕ → List (OrderOn Name)) → ((i : ℕ) → i < k → writes W (f i) ≡ true) → writes W (loop k f) ≡ true
writes_loop W zero f h = refl
writes_loop W (suc k) f h = writes_append W (loop k f) (f k) (writes_loop W k f (λ i l. h i (omega arith))) (h k (le_refl (suc k)))

pub writes_more : (W X : Name → Bool) → ((c : Name) → W c ≡ true → X c ≡ true) → (l : List (OrderOn Name)) → writes W l ≡ true → writes X l ≡ true
writes_more W X h [] e = refl
writes_more W X h (o ∷ l) e = go (W (target o)) refl e (λ a. writes_more W X h l a)
  where
    go : (x : Bool) → W (target o) ≡ x → x && writes W l ≡ true → (writes W l ≡ true → writes X l ≡ true) → X (target o) && writes X l ≡ true
    go true q a ih = rw (h (target o) q) (ih a)
    go false q a ih = absurd (false≢true a)

pub eqb_same : (i : ℕ) → eqb i i ≡ true
eqb_same i = eq-eqb i i refl

pub same_self : (c : Name) → same c c ≡ true
same_self (at t i j) = rw (eqb_same (number t), eqb_same i, eqb_same j)

-- of the blocks only block q changes c
pub loop_only : (k : ℕ) (f : ℕ → List (OrderOn Name)) (c : Name) (s : State) (q : ℕ) → q < k
    → ((i : ℕ) (t : State) → i < k → i ≢ q → run (f i) t c ≡ t c) → run (loop k f) s c ≡ run (f q) (run (loop q f) s) c
loop_only zero f c s q a h = absurd (not-suc-le-zero a)
loop_only (suc k) f c s q a h = rw named_run_append (go (eq-or-lt_of_le (le_of_suc-le-suc a)) (λ l. loop_only k f c s q l (λ i t b. h i t (omega arith))))
  where
    go : (q ≡ k) ⊎ (q < k) → (q < k → run (loop k f) s c ≡ run (f q) (run (loop q f) s) c) → run (f k) (run (loop k f) s) c ≡ run (f q) (run (loop q f) s) c
    go (inl e) ih = rw e
    go (inr l) ih = h k (run (loop k f) s) (le_refl (suc k)) (omega arith) ∙ ih l

-- each turn changes cell c i of its own only
pub loop_own : (k : ℕ) (f : ℕ → List (OrderOn Name)) (c : Name) (s : State) (q : ℕ) → q < k
    → ((i : ℕ) (t : State) → i ≢ q → run (f i) t c ≡ t c) → (run (loop k f) s c ≡ run (f q) (run (loop q f) s) c) × (run (loop q f) s c ≡ s c)
loop_own k f c s q a h = (
  loop_only k f c s q a (λ i t _. h i t),
  loop_invariant (λ i t. t c ≡ s c) q f s refl (λ i t l e. h i t (omega arith) ∙ e),
)
