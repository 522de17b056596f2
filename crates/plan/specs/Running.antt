-- Loops that add up in a cell (`gather`), lower it to a least or raise it to a greatest number, make one test of many (`conjoin`), and that sum over
-- all subsets (`subset_sums`).
use Rattle.std.specs.Prelude.{◌≡◌, refl, Bool, true, false, ◌&&◌, List, [], ◌∷◌, ℕ, suc, ◌+◌, ◌≤◌, ◌<◌, min, max, eqb}
use Rattle.std.proofs.Common.{ap, ◌∙◌, arith}
use Rattle.definitions.specs.Limits.{modulus, greatest_positive}
use Rattle.definitions.specs.Arithmetic.{on, sum_to, all_to}
use Rattle.laws.specs.Sum.{sum_prefix}
use Rattle.laws.specs.Extremes.{min_to, max_to, min_le_start, max_below}
use Rattle.plan.specs.Orders.{OrderOn, constant, sum, difference, product, less, State, run}
use Rattle.plan.specs.Loops.{loop, loop_invariant, among, writes, same_self}
use Rattle.plan.specs.Names.{Name, Subsets, Temporary, Subset}
use Rattle.plan.specs.Subsets.{lowest, others}

-- ---- the four orders of a running minimum and of a running maximum

-- d takes the lesser of d and a
abbrev pub lowered : Name → Name → List (OrderOn Name)
lowered d a =
    less (Temporary 0) a d
    ∷ difference (Temporary 1) a d
    ∷ product (Temporary 0) (Temporary 0) (Temporary 1)
    ∷ sum d d (Temporary 0)
    ∷ []

-- d takes the greater of d and a
abbrev pub raised : Name → Name → List (OrderOn Name)
raised d a =
    less (Temporary 0) d a
    ∷ difference (Temporary 1) a d
    ∷ product (Temporary 0) (Temporary 0) (Temporary 1)
    ∷ sum d d (Temporary 0)
    ∷ []

-- ---- what one block does to a cell c, with J true all along; a block may itself be such a loop

-- v is added to c
abbrev pub Adds : (State → Type 0) → Name → List (OrderOn Name) → ℕ → Type 0
Adds J c l v = (t : State) → J t → t c + v < modulus → J (run l t) × (run l t c ≡ t c + v)

pub accumulate : (J : State → Type 0) (c : Name) (n : ℕ) (f : ℕ → List (OrderOn Name)) (v : ℕ → ℕ)
    → ((i : ℕ) → i < n → Adds J c (f i) (v i)) → Adds J c (loop n f) (sum_to n v)
unfolding sum_to
accumulate J c n f v turn s j b =
    loop_invariant (λ k t. J t × (t c ≡ s c + sum_to k v)) n f s (j, omega arith)
    (λ i t l ih.
    let r : J (run (f i) t) × (run (f i) t c ≡ t c + v i) = turn i l t ih.0 (omega (arith, ih.1, sum_prefix (suc i) n v l)) in
    (r.0, omega (arith, r.1, ih.1)))

-- a sum from 0: the cell is cleared first
pub gather : (J : State → Type 0) (c : Name) (l : List (OrderOn Name)) (v : ℕ) → ((t : State) → J t → J (run (constant c 0 ∷ []) t)) → Adds J c l v
    → (s : State) → J s → v < modulus → J (run (constant c 0 ∷ l) s) × (run (constant c 0 ∷ l) s c ≡ v)
gather J c l v start adds s j b =
    let t : State = run (constant c 0 ∷ []) s in
    let e : t c ≡ 0 = rw (same_self c) in
    let r : J (run l t) × (run l t c ≡ t c + v) = adds t (start s j) (omega arith) in
    (r.0, omega (arith, r.1))

-- c takes the lesser of c and v
abbrev pub Lowers : (State → Type 0) → Name → List (OrderOn Name) → ℕ → Type 0
Lowers J c l v = (t : State) → J t → t c ≤ greatest_positive → J (run l t) × (run l t c ≡ min (t c) v)

pub lower : (J : State → Type 0) (c : Name) (n : ℕ) (f : ℕ → List (OrderOn Name)) (v : ℕ → ℕ) → ((i : ℕ) → i < n → Lowers J c (f i) (v i))
    → (s : State) → J s → s c ≤ greatest_positive → J (run (loop n f) s) × (run (loop n f) s c ≡ min_to (s c) n v)
unfolding min_to
lower J c n f v turn s j b =
    loop_invariant (λ k t. J t × (t c ≡ min_to (s c) k v)) n f s (j, refl)
    (λ i t l ih.
    let r : J (run (f i) t) × (run (f i) t c ≡ min (t c) (v i)) = turn i l t ih.0 (omega (arith, ih.1, min_le_start (s c) i v)) in
    (r.0, r.1 ∙ ap (λ (x : ℕ). min x (v i)) ih.1))

-- c takes the greater of c and v
abbrev pub Raises : (State → Type 0) → Name → List (OrderOn Name) → ℕ → Type 0
Raises J c l v = (t : State) → J t → t c ≤ greatest_positive → J (run l t) × (run l t c ≡ max (t c) v)

-- from 0, with all numbers small
pub raise : (J : State → Type 0) (c : Name) (n : ℕ) (f : ℕ → List (OrderOn Name)) (v : ℕ → ℕ) → ((i : ℕ) → i < n → v i ≤ greatest_positive) → ((i : ℕ) → i < n → Raises J c (f i) (v i))
    → (s : State) → J s → s c ≡ 0 → J (run (loop n f) s) × (run (loop n f) s c ≡ max_to n v)
unfolding max_to
raise J c n f v small turn s j e =
    loop_invariant (λ k t. J t × (t c ≡ max_to k v)) n f s (j, e)
    (λ i t l ih.
    let r : J (run (f i) t) × (run (f i) t c ≡ max (t c) (v i)) = turn i l t ih.0 (omega (arith, ih.1, max_below i v greatest_positive (λ k a. small k (omega arith)))) in
    (r.0, r.1 ∙ ap (λ (x : ℕ). max x (v i)) ih.1))

-- c, which holds a test, takes it and another
abbrev pub Conjoins : (State → Type 0) → Name → List (OrderOn Name) → Bool → Type 0
Conjoins J c l v = (t : State) (x : Bool) → J t → t c ≡ on x 1 → J (run l t) × (run l t c ≡ on (x && v) 1)

-- from 1
pub conjoin : (J : State → Type 0) (c : Name) (n : ℕ) (f : ℕ → List (OrderOn Name)) (v : ℕ → Bool) → ((i : ℕ) → i < n → Conjoins J c (f i) (v i))
    → (s : State) → J s → s c ≡ 1 → J (run (loop n f) s) × (run (loop n f) s c ≡ on (all_to n v) 1)
unfolding all_to
conjoin J c n f v turn s j e =
    loop_invariant (λ k t. J t × (t c ≡ on (all_to k v) 1)) n f s (j, e) (λ i t l ih. turn i l t (all_to i v) ih.0 ih.1)

-- ---- the sums over all subsets of cells X 0 .. X (m - 1), each from that without its lowest pool

-- the sum over S: 0 for the empty set, else that of its other pools and the cell of its lowest
abbrev pub subset_order : Bool → (m : ℕ) → (ℕ → Name) → ℕ → OrderOn Name
subset_order true m X S = constant (Subset S) 0
subset_order false m X S = sum (Subset S) (Subset (others m S)) (X (lowest m S))

-- that, by whether S is empty
abbrev pub subset_block : (m : ℕ) → (ℕ → Name) → ℕ → List (OrderOn Name)
subset_block m X S = subset_order (eqb S 0) m X S ∷ []

pub subset_frame : (m : ℕ) (X : ℕ → Name) (S : ℕ) → writes (among (Subsets ∷ [])) (subset_block m X S) ≡ true
subset_frame m X S = go (eqb S 0)
  where
    go : (t : Bool) → writes (among (Subsets ∷ [])) (subset_order t m X S ∷ []) ≡ true
    go true = refl
    go false = refl
