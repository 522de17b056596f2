-- What holds of all entries of a list (`All`), and its facts written one after another (`◌&◌`).
use Rattle.std.specs.Prelude.{List, [], ◌∷◌, ◌++◌, map, ℕ, zero, suc, ◌<◌, length, get_or}
use Rattle.std.proofs.Common.{not-suc-le-zero, le_of_suc-le-suc, le_refl, arith}
use Rattle.plan.specs.Loops.{loop}

-- two facts as one; facts on the entries of a list are written one after another, with `tt` at the end
infixr 20 ◌&◌
pub ◌&◌ : {A B : Type 0} → A → B → A × B
a & b = (a, b)

module _ {A : Type 0} (P : A → Type 0) where
  -- P holds of every entry of a list
  abbrev pub All : List A → Type 0
  All [] = Unit {0}
  All (o ∷ l) = P o × All l

  pub all_append : (x y : List A) → All x → All y → All (x ++ y)
  all_append [] y p q = q
  all_append (o ∷ x) y p q = (p.0, all_append x y p.1 q)

  pub all_loop : (k : ℕ) (f : ℕ → List A) → ((i : ℕ) → i < k → All (f i)) → All (loop k f)
  all_loop zero f h = tt
  all_loop (suc k) f h = all_append (loop k f) (f k) (all_loop k f (λ i l. h i (omega arith))) (h k (le_refl (suc k)))

  pub all_at : (l : List A) → All l → (x : ℕ) (d : A) → x < length l → P (get_or l x d)
  all_at [] h x d c = absurd (not-suc-le-zero c)
  all_at (o ∷ l) h zero d c = h.0
  all_at (o ∷ l) h (suc x) d c = all_at l h.1 x d (le_of_suc-le-suc c)

-- what follows from it
pub all_imply : {A : Type 0} (P Q : A → Type 0) → ((a : A) → P a → Q a) → (l : List A) → All P l → All Q l
all_imply P Q g [] h = tt
all_imply P Q g (a ∷ l) h = (g a h.0, all_imply P Q g l h.1)

-- of the images under a function
pub all_map : {A B : Type 0} (P : A → Type 0) (Q : B → Type 0) (f : A → B) → ((a : A) → P a → Q (f a)) → (l : List A) → All P l → All Q (map f l)
all_map P Q f g [] h = tt
all_map P Q f g (a ∷ l) h = (g a h.0, all_map P Q f g l h.1)
