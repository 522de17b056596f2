-- What the families of cells hold, in one statement for all of them; a phase fills one family, and phases follow one another (`then`).
use Rattle.std.specs.Prelude.{◌≡◌, refl, Bool, true, false, not, cond, ◌&&◌, ◌||◌, List, [], ◌∷◌, ◌++◌, ℕ, ◌<◌, eqb}
use Rattle.std.proofs.Common.{sym, ap, ◌∙◌, arith, ne_eqb}
use Rattle.std.proofs.lemmas.Bool.{false≢true}
use Rattle.std.proofs.Math.Arith.{lt-one}
use Rattle.plan.specs.Orders.{OrderOn, State, run}
use Rattle.plan.specs.Names.{Family, number, Name, at, family, row, same}
use Rattle.plan.proofs.NameFacts.{family_equal}
use Rattle.plan.specs.Loops.{loop, named_run_append, loop_invariant, one_of, among, writes, writes_append, writes_loop, writes_more, eqb_same, loop_only}
use Rattle.plan.proofs.LoopFacts.{keep}

-- ---- lists of families

-- no family of ts is one of ws
abbrev pub apart : List Family → List Family → Bool
apart ws [] = true
apart ws (t ∷ ts) = not (one_of ws t) && apart ws ts

pub apart_listed : (ws ts : List Family) → apart ws ts ≡ true → (t : Family) → one_of ts t ≡ true → one_of ws t ≡ false
apart_listed ws [] h t e = absurd (false≢true e)
apart_listed ws (u ∷ ts) h t e = go (one_of ws u) (eqb (number u) (number t)) refl refl h e (λ a. apart_listed ws ts a t)
  where
    go : (x y : Bool) → one_of ws u ≡ x → eqb (number u) (number t) ≡ y → not x && apart ws ts ≡ true → y || one_of ts t ≡ true
        → (apart ws ts ≡ true → one_of ts t ≡ true → one_of ws t ≡ false) → one_of ws t ≡ false
    go true y p q a b ih = absurd (false≢true a)
    go false true p q a b ih = ap (one_of ws) (sym (family_equal u t q)) ∙ p
    go false false p q a b ih = ih a b

-- every family of us is one of ts
abbrev pub part_of : List Family → List Family → Bool
part_of ts [] = true
part_of ts (u ∷ us) = one_of ts u && part_of ts us

pub part_listed : (ts us : List Family) → part_of ts us ≡ true → (t : Family) → one_of us t ≡ true → one_of ts t ≡ true
part_listed ts [] h t e = absurd (false≢true e)
part_listed ts (u ∷ us) h t e = go (one_of ts u) (eqb (number u) (number t)) refl refl h e (λ a. part_listed ts us a t)
  where
    go : (x y : Bool) → one_of ts u ≡ x → eqb (number u) (number t) ≡ y → x && part_of ts us ≡ true → y || one_of us t ≡ true
        → (part_of ts us ≡ true → one_of us t ≡ true → one_of ts t ≡ true) → one_of ts t ≡ true
    go false y p q a b ih = absurd (false≢true a)
    go true true p q a b ih = ap (one_of ts) (sym (family_equal u t q)) ∙ p
    go true false p q a b ih = ih a b

-- the families of ts that are none of ws
abbrev pub except : List Family → List Family → List Family
except ws [] = []
except ws (t ∷ ts) = cond (one_of ws t) (except ws ts) (t ∷ except ws ts)

-- one of them is one of ts, and none of ws
pub except_listed : (ws ts : List Family) (t : Family) → one_of (except ws ts) t ≡ true → (one_of ts t ≡ true) × (one_of ws t ≡ false)
except_listed ws [] t e = absurd (false≢true e)
except_listed ws (u ∷ ts) t e = go (one_of ws u) (eqb (number u) (number t)) refl refl e (except_listed ws ts t)
  where
    go : (x y : Bool) → one_of ws u ≡ x → eqb (number u) (number t) ≡ y → one_of (cond x (except ws ts) (u ∷ except ws ts)) t ≡ true
        → (one_of (except ws ts) t ≡ true → (one_of ts t ≡ true) × (one_of ws t ≡ false)) → (y || one_of ts t ≡ true) × (one_of ws t ≡ false)
    go true true p q a ih = (refl, (ih a).1)
    go true false p q a ih = ih a
    go false true p q a ih = (refl, ap (one_of ws) (sym (family_equal u t q)) ∙ p)
    go false false p q a ih = ih (sym (ap (λ (y : Bool). y || one_of (except ws ts) t) q) ∙ a)

-- ---- what the families hold

-- each family is a table: how many rows and columns it has, and what it holds in the end
pub record Tables : Type 0 where
  pub rows : Family → ℕ
  pub columns : Family → ℕ
  pub value : Family → ℕ → ℕ → ℕ

module _ (T : Tables) where
  -- the families of ts hold what the tables say
  abbrev pub Holds : List Family → State → Type 0
  Holds ts s = (t : Family) → one_of ts t ≡ true → (i j : ℕ) → i < T.rows t → j < T.columns t → s (at t i j) ≡ T.value t i j

  pub holds_keep : (ws ts : List Family) → apart ws ts ≡ true → (l : List (OrderOn Name)) → writes (among ws) l ≡ true → (s : State) → Holds ts s → Holds ts (run l s)
  holds_keep ws ts a l w s h t e i j x y = keep (among ws) l (at t i j) s w (apart_listed ws ts a t e) ∙ h t e i j x y

  pub holds_part : (ts us : List Family) → part_of ts us ≡ true → (s : State) → Holds ts s → Holds us s
  holds_part ts us a s h t e = h t (part_listed ts us a t e)

  pub holds_add : (u : Family) (ts : List Family) (s : State) → ((i j : ℕ) → i < T.rows u → j < T.columns u → s (at u i j) ≡ T.value u i j) → Holds ts s → Holds (u ∷ ts) s
  holds_add u ts s new old t e = go (eqb (number u) (number t)) refl e
    where
      go : (x : Bool) → eqb (number u) (number t) ≡ x → x || one_of ts t ≡ true → (i j : ℕ) → i < T.rows t → j < T.columns t → s (at t i j) ≡ T.value t i j
      go true q a = rw (← family_equal u t q) new
      go false q a = old t a

  -- A phase: from the families that it reads, its orders fill family u, and write no family but u and ws.
  pub record Phase (reads : List Family) (u : Family) (ws : List Family) (l : List (OrderOn Name)) : Type 0 where
    pub fills : (s : State) → Holds reads s → (i j : ℕ) → i < T.rows u → j < T.columns u → run l s (at u i j) ≡ T.value u i j
    pub frame : writes (among (u ∷ ws)) l ≡ true

  -- what is held before a list of orders and after it
  pub record Step (ts us : List Family) (l : List (OrderOn Name)) : Type 0 where
    pub done : (s : State) → Holds ts s → Holds us (run l s)

  pub then : {ts us vs : List Family} {x y : List (OrderOn Name)} → Step ts us x → Step us vs y → Step ts vs (x ++ y)
  then {x} {y} p q = record { done = λ s h. rw (named_run_append x y s) (q.done (run x s) (p.done s h)) }

  -- less may be claimed
  pub step_part : {ts us : List Family} {x : List (OrderOn Name)} (vs : List Family) → Step ts us x → part_of us vs ≡ true → Step ts vs x
  step_part {us = us} {x = x} vs p e = record { done = λ s h. holds_part us vs e (run x s) (p.done s h) }

  -- a phase is such a step from any families that it reads; those that it writes besides its own are given up
  pub phase_step : {reads : List Family} {u : Family} {ws : List Family} {l : List (OrderOn Name)} (ts : List Family) → Phase reads u ws l
      → part_of ts reads ≡ true → Step ts (u ∷ except (u ∷ ws) ts) l
  phase_step {reads} {u} {ws} {l} ts p e = record {
    done = λ s h. holds_add u (except (u ∷ ws) ts) (run l s) (p.fills s (holds_part ts reads e s h))
        (λ t f i j a b.
        keep (among (u ∷ ws)) l (at t i j) s p.frame (except_listed (u ∷ ws) ts t f).1
        ∙ h t (except_listed (u ∷ ws) ts t f).0 i j a b);
  }

-- ---- loops that fill a family

-- row i of family u, and the families ws
abbrev pub touches : Family → ℕ → List Family → Name → Bool
touches u i ws c = among ws c || (eqb (number u) (number (family c)) && eqb i (row c))

-- cell i, j of family u, and the families ws
abbrev pub touches_cell : Family → ℕ → ℕ → List Family → Name → Bool
touches_cell u i j ws c = among ws c || same (at u i j) c

pub touches_family : (u : Family) (ws : List Family) (i : ℕ) (l : List (OrderOn Name)) → writes (touches u i ws) l ≡ true → writes (among (u ∷ ws)) l ≡ true
touches_family u ws i l h = writes_more (touches u i ws) (among (u ∷ ws)) (λ c. go (among ws c) (eqb (number u) (number (family c))) (eqb i (row c))) l h
  where
    go : (x y z : Bool) → x || (y && z) ≡ true → y || x ≡ true
    go true true z e = refl
    go true false z e = refl
    go false true z e = refl
    go false false z e = e

touches_row : (u : Family) (i j : ℕ) (ws : List Family) (l : List (OrderOn Name)) → writes (touches_cell u i j ws) l ≡ true → writes (touches u i ws) l ≡ true
touches_row u i j ws l h = writes_more (touches_cell u i j ws) (touches u i ws) each l h
  where
    go : (x y z w : Bool) → x || (y && (z && w)) ≡ true → x || (y && z) ≡ true
    go true y z w e = refl
    go false true true w e = refl
    go false true false w e = e
    go false false z w e = e

    each : (c : Name) → touches_cell u i j ws c ≡ true → touches u i ws c ≡ true
    each (at t a b) = go (among ws (at t a b)) (eqb (number u) (number t)) (eqb i a) (eqb j b)

-- orders that write only families ws
pub touches_among : (u : Family) (i : ℕ) (vs ws : List Family) → part_of ws vs ≡ true → (l : List (OrderOn Name)) → writes (among vs) l ≡ true → writes (touches u i ws) l ≡ true
touches_among u i vs ws h l e = writes_more (among vs) (touches u i ws) (λ c a. rw (part_listed ws vs h (family c) a)) l e

module _ (T : Tables) (reads : List Family) (u : Family) (ws : List Family) (clear : apart (u ∷ ws) reads ≡ true) (new : one_of ws u ≡ false) where
  -- after some first orders that make J true, turn i writes row i of the family and keeps J
  pub fill_after : (first : List (OrderOn Name)) (f : ℕ → List (OrderOn Name)) (J : State → Type 0) → writes (among ws) first ≡ true
      → ((i : ℕ) → writes (touches u i ws) (f i) ≡ true) → ((s : State) → Holds T reads s → J (run first s)) → ((i : ℕ) (t : State) → i < T.rows u → J t → J (run (f i) t))
      → ((i j : ℕ) (t : State) → i < T.rows u → j < T.columns u → J t → run (f i) t (at u i j) ≡ T.value u i j)
      → Phase T reads u ws (first ++ loop (T.rows u) f)
  fill_after first f J begins touch start stays value = record {
    fills = λ s h i j a b.
        ap (λ (r : State). r (at u i j)) (named_run_append first (loop (T.rows u) f) s)
        ∙ loop_only (T.rows u) f (at u i j) (run first s) i a (λ k t _ ne. keep (touches u k ws) (f k) (at u i j) t (touch k) (rw (new, eqb_same (number u), ne_eqb k i ne)))
        ∙ value i j (run (loop i f) (run first s)) a b (loop_invariant (λ k t. J t) i f (run first s) (start s h) (λ k t l. stays k t (omega arith)));
    frame = writes_append (among (u ∷ ws)) first (loop (T.rows u) f) (writes_more (among ws) (among (u ∷ ws)) (λ c. more (eqb (number u) (number (family c))) (among ws c)) first begins)
        (writes_loop (among (u ∷ ws)) (T.rows u) f (λ k _. touches_family u ws k (f k) (touch k)));
  }
    where
      more : (x y : Bool) → y ≡ true → x || y ≡ true
      more true y e = refl
      more false y e = e

  -- turn i writes row i of the family
  pub fill_rows : (f : ℕ → List (OrderOn Name)) → ((i : ℕ) → writes (touches u i ws) (f i) ≡ true)
      → ((i j : ℕ) (t : State) → i < T.rows u → j < T.columns u → Holds T reads t → run (f i) t (at u i j) ≡ T.value u i j)
      → Phase T reads u ws (loop (T.rows u) f)
  fill_rows f touch value =
      fill_after [] f (Holds T reads) refl touch (λ s h. h) (λ i t _. holds_keep T (u ∷ ws) reads clear (f i) (touches_family u ws i (f i) (touch i)) t) value

  -- turn i, j writes cell i, j of the family
  pub fill_cells : (g : ℕ → ℕ → List (OrderOn Name)) → ((i j : ℕ) → writes (touches_cell u i j ws) (g i j) ≡ true)
      → ((i j : ℕ) (t : State) → i < T.rows u → j < T.columns u → Holds T reads t → run (g i j) t (at u i j) ≡ T.value u i j)
      → Phase T reads u ws (loop (T.rows u) (λ i. loop (T.columns u) (g i)))
  fill_cells g touch value =
      fill_rows (λ i. loop (T.columns u) (g i)) (λ i. writes_loop (touches u i ws) (T.columns u) (g i) (λ j _. touches_row u i j ws (g i j) (touch i j)))
      (λ i j t a b h.
      loop_only (T.columns u) (g i) (at u i j) t j b
      (λ k r _ ne. keep (touches_cell u i k ws) (g i k) (at u i j) r (touch i k) (rw (new, eqb_same (number u), eqb_same i, ne_eqb k j ne)))
      ∙ value i j (run (loop j (g i)) t) a b
      (holds_keep T (u ∷ ws) reads clear (loop j (g i)) (writes_loop (among (u ∷ ws)) j (g i) (λ k _. touches_family u ws i (g i k) (touches_row u i k ws (g i k) (touch i k)))) t h))

  -- the family is one column
  pub fill_column : T.columns u ≡ 1 → (f : ℕ → List (OrderOn Name)) → ((i : ℕ) → writes (touches u i ws) (f i) ≡ true)
      → ((i : ℕ) (t : State) → i < T.rows u → Holds T reads t → run (f i) t (at u i 0) ≡ T.value u i 0)
      → Phase T reads u ws (loop (T.rows u) f)
  fill_column one f touch value = fill_rows f touch (λ i j t a b h. rw (lt-one (rw one at b)) (value i t a h))
