-- A list as a table of phases: each phase repeats its row, a row is a few parts, and a part repeats its block over columns.
-- What stands at a place (`in_row`, `in_rows`, `in_table`), how long the list is (`flat_length`), what holds of all entries (`each_flat`).
use Rattle.std.specs.Prelude.{◌≡◌, ◌⊎◌, List, [], ◌∷◌, ◌++◌, map, get_or, refl, ℕ, zero, suc, ◌+◌, ◌*◌, ◌<◌, length}
use Rattle.std.proofs.Common.{ap, sym, subst, ◌∙◌, inl, inr, append_assoc, not-suc-le-zero, eq-or-lt_of_le, le_of_suc-le-suc, le_refl, arith, get_or-append-add, length-append}
use Rattle.std.proofs.Math.ListN.{get_or-append}
use Rattle.std.proofs.lemmas.List.{length-map}
use Rattle.definitions.specs.Arithmetic.{sum_to}
use Rattle.plan.specs.Loops.{loop}
use Rattle.plan.specs.Entries.{All, all_loop, all_imply}

pub sum_same : (k s : ℕ) → sum_to k (λ _. s) ≡ k * s
unfolding sum_to
sum_same zero s = omega arith
sum_same (suc k) s = omega (arith, sum_same k s)

-- a part of a row: how many columns, how many entries each block has, and the block of a row and a column
pub record PartOf (A : Type 0) : Type 0 where
  pub columns : ℕ
  pub turn : ℕ
  pub block : ℕ → ℕ → List A
  pub fair : (i j : ℕ) → length (block i j) ≡ turn

-- a phase: how many rows, and the parts of each row
pub record PhaseOf (A : Type 0) : Type 0 where
  pub rows : ℕ
  pub parts : List (PartOf A)

module _ {A : Type 0} where
  -- the part of so many columns and entries a block
  abbrev pub part : (columns turn : ℕ) (block : ℕ → ℕ → List A) → ((i j : ℕ) → length (block i j) ≡ turn) → PartOf A
  part c t f e = record { columns = c; turn = t; block = f; fair = e }

  -- the phase of so many rows
  abbrev pub phase : ℕ → List (PartOf A) → PhaseOf A
  phase k ts = record { rows = k; parts = ts }

  -- a part of nothing, which stands for those past the last
  abbrev pub no_part : PartOf A
  no_part = part 0 0 (λ i j. []) (λ i j. refl)

  -- a phase of nothing
  abbrev pub no_phase : PhaseOf A
  no_phase = phase 0 []

  -- part q of a phase
  abbrev pub part_at : PhaseOf A → ℕ → PartOf A
  part_at p q = get_or p.parts q no_part

  -- phase k of a table
  abbrev pub phase_in : List (PhaseOf A) → ℕ → PhaseOf A
  phase_in ps k = get_or ps k no_phase

  -- ---- the list

  -- lists one after another, nested to the right, with no empty list at the end
  abbrev pub chained : List (List A) → List A
  chained [] = []
  chained (x ∷ []) = x
  chained (x ∷ (y ∷ l)) = x ++ chained (y ∷ l)

  -- a part in row i
  abbrev pub stretch : ℕ → PartOf A → List A
  stretch i t = loop t.columns (t.block i)

  -- row i of a phase
  abbrev pub row_of : PhaseOf A → ℕ → List A
  row_of p i = chained (map (stretch i) p.parts)

  -- all rows of a phase
  abbrev pub all_rows : PhaseOf A → List A
  all_rows p = loop p.rows (row_of p)

  -- the whole list: all phases
  abbrev pub flat : List (PhaseOf A) → List A
  flat ps = chained (map all_rows ps)

  -- ---- sizes

  -- how many entries part q has in a row
  abbrev pub part_size : PhaseOf A → ℕ → ℕ
  part_size p q = (part_at p q).columns * (part_at p q).turn

  -- how many a row has
  unfoldable pub row_size : PhaseOf A → ℕ
  row_size p = sum_to (length p.parts) (part_size p)

  -- how many a phase has
  abbrev pub phase_size : PhaseOf A → ℕ
  phase_size p = p.rows * row_size p

  -- where part q begins in its row
  unfoldable pub part_start : PhaseOf A → ℕ → ℕ
  part_start p q = sum_to q (part_size p)

  -- where phase k begins in the list
  unfoldable pub phase_start : List (PhaseOf A) → ℕ → ℕ
  phase_start ps k = sum_to k (λ u. phase_size (phase_in ps u))

  -- how many entries the table has
  unfoldable pub table_size : List (PhaseOf A) → ℕ
  table_size ps = sum_to (length ps) (λ k. phase_size (phase_in ps k))

  -- ---- lists one after another are a loop

  loop_shift : (k : ℕ) (f : ℕ → List A) → loop (suc k) f ≡ f 0 ++ loop k (λ i. f (suc i))
  loop_shift zero f = sym (append_nil (f 0))
    where
      append_nil : (l : List A) → l ++ [] ≡ l
      append_nil [] = refl
      append_nil (a ∷ l) = ap (λ (t : List A). a ∷ t) (append_nil l)
  loop_shift (suc k) f = ap (λ (l : List A). l ++ f (suc k)) (loop_shift k f) ∙ append_assoc (f 0) (loop k (λ i. f (suc i))) (f (suc k))

  joined_loop : {B : Type 0} (g : B → List A) (d : B) (l : List B) → chained (map g l) ≡ loop (length l) (λ q. g (get_or l q d))
  joined_loop g d [] = refl
  joined_loop g d (x ∷ []) = refl
  joined_loop g d (x ∷ (y ∷ l)) =
      ap (λ (t : List A). g x ++ t) (joined_loop g d (y ∷ l))
      ∙ sym (loop_shift (length (y ∷ l)) (λ q. g (get_or (x ∷ (y ∷ l)) q d)))

  -- a row as a loop over its parts
  abbrev pub row_loop : PhaseOf A → ℕ → List A
  row_loop p i = loop (length p.parts) (λ q. stretch i (part_at p q))

  pub row_loop_lem : (p : PhaseOf A) (i : ℕ) → row_of p i ≡ row_loop p i
  row_loop_lem p i = joined_loop (stretch i) no_part p.parts

  -- the list as a loop over its phases
  pub flat_loop : (ps : List (PhaseOf A)) → flat ps ≡ loop (length ps) (λ k. all_rows (phase_in ps k))
  flat_loop ps = joined_loop all_rows no_phase ps

  -- one phase more at the end
  pub flat_last : (ps : List (PhaseOf A)) (p : PhaseOf A) → flat (ps ++ (p ∷ [])) ≡ flat ps ++ all_rows p
  flat_last [] p = refl
  flat_last (a ∷ []) p = refl
  flat_last (a ∷ (b ∷ ps)) p =
      ap (λ (l : List A). all_rows a ++ l) (flat_last (b ∷ ps) p) ∙ sym (append_assoc (all_rows a) (flat (b ∷ ps)) (all_rows p))

  -- ---- what stands at a place of a list

  -- x is a place of l, and o stands there
  pub record Has (l : List A) (x : ℕ) (o : A) : Type 0 where
    pub inside : x < length l
    pub is : (d : A) → get_or l x d ≡ o

  pub has_here : (l : List A) (x : ℕ) (d : A) → x < length l → Has l x (get_or l x d)
  has_here [] x d h = absurd (not-suc-le-zero h)
  has_here (a ∷ l) zero d h = record { inside = h; is = λ e. refl }
  has_here (a ∷ l) (suc x) d h = let r = has_here l x d (le_of_suc-le-suc h) in record { inside = h; is = r.is }

  has_left : (a b : List A) (x : ℕ) (o : A) → Has a x o → Has (a ++ b) x o
  has_left a b x o h = record {
    inside = rw length-append (omega (arith, h.inside));
    is = λ d. get_or-append a b d x h.inside ∙ h.is d;
  }

  has_right : (a b : List A) (x : ℕ) (o : A) → Has b x o → Has (a ++ b) (length a + x) o
  has_right a b x o h = record {
    inside = rw length-append (omega (arith, h.inside));
    is = λ d. get_or-append-add a b x d ∙ h.is d;
  }

-- the element at a place of a mapped list
pub has_map : {A B : Type 0} (f : A → B) (l : List A) (x : ℕ) (o : A) → Has l x o → Has (map f l) x (f o)
has_map f [] x o h = absurd (not-suc-le-zero h.inside)
has_map f (a ∷ l) zero o h = record { inside = rw length-map h.inside; is = λ d. ap f (h.is a) }
has_map f (a ∷ l) (suc x) o h =
    let r = has_map f l x o (record { inside = le_of_suc-le-suc h.inside; is = h.is }) in
    record { inside = rw length-map h.inside; is = r.is }

module _ {A : Type 0} where
  -- ---- a loop of blocks, each of a length s

  module _ (f : ℕ → List A) (s : ℕ → ℕ) where
    pub loop_length : (k : ℕ) → ((i : ℕ) → i < k → length (f i) ≡ s i) → length (loop k f) ≡ sum_to k s
    unfolding sum_to
    loop_length zero h = refl
    loop_length (suc k) h = simp length-append (omega (arith, loop_length k (λ i l. h i (omega arith)), h k (le_refl (suc k))))

    pub in_loop : (k : ℕ) → ((i : ℕ) → i < k → length (f i) ≡ s i) → (i r : ℕ) (o : A) → i < k → Has (f i) r o
        → Has (loop k f) (sum_to i s + r) o
    in_loop zero h i r o a b = absurd (not-suc-le-zero a)
    in_loop (suc k) h i r o a b = go (eq-or-lt_of_le (le_of_suc-le-suc a)) (λ l. in_loop k (λ q u. h q (omega arith)) i r o l b)
      where
        go : (i ≡ k) ⊎ (i < k) → (i < k → Has (loop k f) (sum_to i s + r) o) → Has (loop k f ++ f k) (sum_to i s + r) o
        go (inl e) ih = rw (e, ← loop_length k (λ q u. h q (omega arith))) (has_right (loop k f) (f k) r o (rw e at b))
        go (inr l) ih = has_left (loop k f) (f k) _ o (ih l)

  -- where all blocks are of one length, a place is a product and a rest
  pub in_even : (f : ℕ → List A) (s k : ℕ) → ((i : ℕ) → length (f i) ≡ s) → (i r : ℕ) (o : A) → i < k → Has (f i) r o → Has (loop k f) (i * s + r) o
  in_even f s k h i r o a b = rw (← sum_same i s) (in_loop f (λ _. s) k (λ q _. h q) i r o a b)

  pub even_length : (f : ℕ → List A) (s k : ℕ) → ((i : ℕ) → length (f i) ≡ s) → length (loop k f) ≡ k * s
  even_length f s k h = loop_length f (λ _. s) k (λ q _. h q) ∙ sum_same k s

  -- ---- the table's list

  stretch_length : (i : ℕ) (t : PartOf A) → length (stretch i t) ≡ t.columns * t.turn
  stretch_length i t = even_length (t.block i) t.turn t.columns (t.fair i)

  row_length : (p : PhaseOf A) (i : ℕ) → length (row_of p i) ≡ row_size p
  unfolding row_size
  row_length p i =
      ap length (row_loop_lem p i)
      ∙ loop_length (λ q. stretch i (part_at p q)) (part_size p) (length p.parts) (λ q _. stretch_length i (part_at p q))

  rows_length : (p : PhaseOf A) → length (all_rows p) ≡ phase_size p
  rows_length p = even_length (row_of p) (row_size p) p.rows (row_length p)

  pub flat_length : (ps : List (PhaseOf A)) → length (flat ps) ≡ table_size ps
  unfolding table_size
  flat_length ps =
      ap length (flat_loop ps)
      ∙ loop_length (λ k. all_rows (phase_in ps k)) (λ k. phase_size (phase_in ps k)) (length ps) (λ k _. rows_length (phase_in ps k))

  pub in_row : (p : PhaseOf A) (i q j r : ℕ) (o : A) → q < length p.parts → j < (part_at p q).columns → Has ((part_at p q).block i j) r o
      → Has (row_of p i) (part_start p q + (j * (part_at p q).turn + r)) o
  unfolding part_start
  in_row p i q j r o a b h =
      rw (row_loop_lem p i)
      (in_loop (λ u. stretch i (part_at p u)) (part_size p) (length p.parts) (λ u _. stretch_length i (part_at p u)) q _ o a
      (in_even ((part_at p q).block i) (part_at p q).turn (part_at p q).columns ((part_at p q).fair i) j r o b h))

  pub in_rows : (p : PhaseOf A) (i y : ℕ) (o : A) → i < p.rows → Has (row_of p i) y o → Has (all_rows p) (i * row_size p + y) o
  in_rows p i y o a h = in_even (row_of p) (row_size p) p.rows (row_length p) i y o a h

  pub in_table : (ps : List (PhaseOf A)) (k y : ℕ) (o : A) → k < length ps → Has (all_rows (phase_in ps k)) y o → Has (flat ps) (phase_start ps k + y) o
  unfolding phase_start
  in_table ps k y o a h =
      rw (flat_loop ps)
      (in_loop (λ u. all_rows (phase_in ps u)) (λ u. phase_size (phase_in ps u)) (length ps) (λ u _. rows_length (phase_in ps u)) k y o a h)

  -- ---- what holds of all entries

  module _ (P : A → Type 0) where
    -- of those of a row's parts, the row being one of k
    abbrev pub EachPart : ℕ → List (PartOf A) → Type 0
    EachPart k [] = Unit {0}
    EachPart k (t ∷ ts) = ((i j : ℕ) → i < k → j < t.columns → All P (t.block i j)) × EachPart k ts

    -- of those of a table's phases
    abbrev pub EachPhase : List (PhaseOf A) → Type 0
    EachPhase [] = Unit {0}
    EachPhase (p ∷ ps) = EachPart p.rows p.parts × EachPhase ps

    part_each : (k : ℕ) (ts : List (PartOf A)) → EachPart k ts → (q i j : ℕ) → q < length ts → i < k → j < (get_or ts q no_part).columns
        → All P ((get_or ts q no_part).block i j)
    part_each k [] h q i j a b c = absurd (not-suc-le-zero a)
    part_each k (t ∷ ts) h zero i j a b c = h.0 i j b c
    part_each k (t ∷ ts) h (suc q) i j a b c = part_each k ts h.1 q i j (le_of_suc-le-suc a) b c

    pub block_each : (ps : List (PhaseOf A)) → EachPhase ps → (k q i j : ℕ) → k < length ps → q < length (phase_in ps k).parts → i < (phase_in ps k).rows
        → j < (part_at (phase_in ps k) q).columns → All P ((part_at (phase_in ps k) q).block i j)
    block_each [] h k q i j a b c d = absurd (not-suc-le-zero a)
    block_each (p ∷ ps) h zero q i j a b c d = part_each p.rows p.parts h.0 q i j b c d
    block_each (p ∷ ps) h (suc k) q i j a b c d = block_each ps h.1 k q i j (le_of_suc-le-suc a) b c d

    pub each_flat : (ps : List (PhaseOf A)) → EachPhase ps → All P (flat ps)
    each_flat ps h =
        subst (All P) (sym (flat_loop ps))
        (all_loop P (length ps) (λ k. all_rows (phase_in ps k))
        (λ k a. all_loop P (phase_in ps k).rows (row_of (phase_in ps k))
        (λ i c. subst (All P) (sym (row_loop_lem (phase_in ps k) i))
        (all_loop P (length (phase_in ps k).parts) (λ q. stretch i (part_at (phase_in ps k) q))
        (λ q b. all_loop P (part_at (phase_in ps k) q).columns ((part_at (phase_in ps k) q).block i) (λ j d. block_each ps h k q i j a b c d))))))

  -- what follows from it
  parts_imply : (P Q : A → Type 0) → ((a : A) → P a → Q a) → (k : ℕ) (ts : List (PartOf A)) → EachPart P k ts → EachPart Q k ts
  parts_imply P Q g k [] h = tt
  parts_imply P Q g k (t ∷ ts) h = ((λ i j a b. all_imply P Q g (t.block i j) (h.0 i j a b)), parts_imply P Q g k ts h.1)

  -- what follows from P holds of all phases, and of one more at the end
  pub each_last : (P Q : A → Type 0) → ((a : A) → P a → Q a) → (ps : List (PhaseOf A)) → EachPhase P ps → (p : PhaseOf A) → EachPart Q p.rows p.parts
      → EachPhase Q (ps ++ (p ∷ []))
  each_last P Q g [] h p l = (l, tt)
  each_last P Q g (a ∷ ps) h p l = (parts_imply P Q g a.rows a.parts h.0, each_last P Q g ps h.1 p l)
