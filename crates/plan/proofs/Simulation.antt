-- Orders over names, each name replaced by its cell's number, do on a sheet what they do on names (`run_agrees`).
use Rattle.std.specs.Prelude.{◌≡◌, refl, ◌≢◌, Bool, true, false, cond, ℕ, ◌≤◌, ◌<◌, set}
use Rattle.std.proofs.Common.{sym, ◌∙◌, true≢false, arith, get_or-set_same, get_or-set_other, ap, List, [], ◌∷◌, map, length, length-set}
use Rattle.definitions.specs.Machine.{cell, step_of, run_of}
use Rattle.plan.specs.Orders.{OrderOn, constant, operate, target, outcome, result, order_of, step_is, renamed, State, update, step, run}
use Rattle.plan.specs.Names.{Name, same}
use Rattle.plan.specs.Loops.{same_self}
use Rattle.plan.proofs.LoopFacts.{same_equal}
use Rattle.plan.specs.Entries.{All}

-- ---- the run of a list of the unit's orders

pub run_length : (os : List (OrderOn ℕ)) (s : List ℕ) → length (run_of (map order_of os) s) ≡ length s
unfolding run_of
run_length [] s = refl
run_length (o ∷ os) s = run_length os (step_of s (order_of o)) ∙ ap length (step_is s o) ∙ length-set s (target o) (outcome (cell s) o)

-- a cell that no order writes
pub run_other : (c : ℕ) (os : List (OrderOn ℕ)) → All (λ o. target o ≢ c) os → (s : List ℕ) → cell (run_of (map order_of os) s) c ≡ cell s c
unfolding run_of
run_other c [] h s = refl
run_other c (o ∷ os) h s =
    run_other c os h.1 (step_of s (order_of o))
    ∙ ap (λ (l : List ℕ). cell l c) (step_is s o)
    ∙ get_or-set_other s (target o) c (outcome (cell s) o) 0 (λ e. h.0 (sym e))

-- ---- names with their cells' numbers

-- every cell of an order passes W
abbrev pub AllNamed : (Name → Type 0) → OrderOn Name → Type 0
AllNamed W (constant d k) = W d
AllNamed W (operate op d a b) = W d × W a × W b

module _ (W : Name → Type 0) (address : Name → ℕ) (total : ℕ)
    (apart : (c d : Name) → W c → W d → address c ≡ address d → c ≡ d) (below : (c : Name) → W c → address c < total) where
  -- the sheet l holds what the state s says, cell by cell
  abbrev pub Agrees : State → List ℕ → Type 0
  Agrees s l = (c : Name) → W c → cell l (address c) ≡ s c

  set_agrees : (s : State) (l : List ℕ) → total ≤ length l → Agrees s l → (d : Name) → W d → (v : ℕ) → Agrees (update s d v) (set l (address d) v)
  set_agrees s l t g d wd v c wc = go (same d c) refl
    where
      go : (x : Bool) → same d c ≡ x → cell (set l (address d) v) (address c) ≡ cond x v (s c)
      go true e = rw (← same_equal d c e) (get_or-set_same l (address d) v 0 (omega (arith, below d wd)))
      go false e =
          get_or-set_other l (address d) (address c) v 0 (λ q. true≢false (sym (same_self d) ∙ ap (same d) (sym (apart c d wc wd q)) ∙ e)) ∙ g c wc

  step_agrees : (s : State) (l : List ℕ) → total ≤ length l → Agrees s l → (o : OrderOn Name) → AllNamed W o → Agrees (step s o) (step_of l (order_of (renamed address o)))
  step_agrees s l t g (constant d k) h c w = set_agrees s l t g d h k c w
  step_agrees s l t g (operate op d a b) h c w =
      ap (λ (r : List ℕ). cell r (address c)) (step_is l (renamed address (operate op d a b)))
      ∙ rw (g a h.1, g b h.2) (set_agrees s l t g d h.0 (result op (s a) (s b)) c w)

  pub run_agrees : (os : List (OrderOn Name)) → All (AllNamed W) os → (s : State) (l : List ℕ) → total ≤ length l → Agrees s l
      → Agrees (run os s) (run_of (map order_of (map (renamed address) os)) l)
  unfolding run_of
  run_agrees [] h s l t g = g
  run_agrees (o ∷ os) h s l t g =
      run_agrees os h.1 (step s o) (step_of l (order_of (renamed address o)))
      (omega (arith, ap length (step_is l (renamed address o)), length-set l (target (renamed address o)) (outcome (cell l) (renamed address o))))
      (step_agrees s l t g o h.0)
