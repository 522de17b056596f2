-- Flows in dictionary order by rows, smaller flows before larger, and the first flows that make some amounts feasible.
use Rattle.std.specs.Prelude.{ℕ, ◌<◌, ◌≡◌, Bool, true, ◌&&◌, ◌||◌, ltb, eqb}
use Rattle.definitions.specs.Book.{Book}
use Rattle.definitions.specs.Clearing.{Clearing, Feasible}

-- line c to d comes before line a to b, by rows
abbrev pub earlier_line : (c d a b : ℕ) → Bool
earlier_line c d a b = ltb c a || (eqb c a && ltb d b)

-- Flows f come no later than flows h: they are equal, or f is less on some line and they are equal on every line before it.
pub data NoLaterFlows (B : Book) (f h : ℕ → ℕ → ℕ) : Type 0 where
  equal : ((a b : ℕ) → a < B.m → b < B.m → f a b ≡ h a b) → NoLaterFlows B f h
  less : (a b : ℕ) → a < B.m → b < B.m → f a b < h a b → ((c d : ℕ) → c < B.m → d < B.m → earlier_line c d a b ≡ true → f c d ≡ h c d) → NoLaterFlows B f h

-- A clearing's flows are the first among all that make its accepted amounts feasible.
pub record FirstFlows (B : Book) (c : Clearing) : Type 0 where
  pub feasible : Feasible B c
  pub first : (d : Clearing) → Feasible B d → ((i : ℕ) → i < B.n → d.accepted i ≡ c.accepted i) → NoLaterFlows B c.flow d.flow
