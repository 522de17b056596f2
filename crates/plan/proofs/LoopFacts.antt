-- What a list of orders leaves alone (`keep`).
use Rattle.std.specs.Prelude.{◌≡◌, refl, Bool, true, false, cond, ◌&&◌, List, [], ◌∷◌, ℕ, ◌<◌, eqb}
use Rattle.std.proofs.Common.{sym, ap, ◌∙◌, true≢false, eqb-true}
use Rattle.std.proofs.lemmas.Bool.{false≢true}
use Rattle.plan.specs.Orders.{OrderOn, target, outcome, State, step, run}
use Rattle.plan.specs.Names.{number, Name, at, same}
use Rattle.plan.proofs.NameFacts.{family_equal}
use Rattle.plan.specs.Loops.{loop, writes, writes_loop}

pub same_equal : (c d : Name) → same c d ≡ true → c ≡ d
same_equal (at s a b) (at t c d) e = go (eqb (number s) (number t)) (eqb a c) (eqb b d) refl refl refl e
  where
    go : (x y z : Bool) → eqb (number s) (number t) ≡ x → eqb a c ≡ y → eqb b d ≡ z → x && (y && z) ≡ true → at s a b ≡ at t c d
    go true true true p q r e = cc (family_equal s t p, eqb-true a c q, eqb-true b d r)
    go true true false p q r e = absurd (false≢true e)
    go true false z p q r e = absurd (false≢true e)
    go false y z p q r e = absurd (false≢true e)

-- a cell that fails W keeps what it holds
pub keep : (W : Name → Bool) (l : List (OrderOn Name)) (c : Name) (s : State) → writes W l ≡ true → W c ≡ false → run l s c ≡ s c
keep W [] c s h v = refl
keep W (o ∷ l) c s h v = go (W (target o)) refl h (λ r. keep W l c (step s o) r v)
  where
    go : (t : Bool) → W (target o) ≡ t → t && writes W l ≡ true → (writes W l ≡ true → run l (step s o) c ≡ step s o c) → run l (step s o) c ≡ s c
    go true e p ih = ih p ∙ other (same (target o) c) refl
      where
        other : (x : Bool) → same (target o) c ≡ x → cond x (outcome s o) (s c) ≡ s c
        other true q = absurd (true≢false (sym e ∙ ap W (same_equal (target o) c q) ∙ v))
        other false q = refl
    go false e p ih = absurd (false≢true p)

pub keep_loop : (W : Name → Bool) (k : ℕ) (f : ℕ → List (OrderOn Name)) (c : Name) (s : State)
    → ((i : ℕ) → i < k → writes W (f i) ≡ true) → W c ≡ false → run (loop k f) s c ≡ s c
keep_loop W k f c s h v = keep W (loop k f) c s (writes_loop W k f h) v
