-- What the code knows of a phase: its numbers (`IsShape`), a place in it (`InPhase`), the order there (`order_in`).
use Rattle.std.specs.Prelude.{◌≡◌, ◌≢◌, List, [], ◌∷◌, ℕ, zero, suc, ◌+◌, ◌*◌, ◌-◌, ◌%◌, ◌/◌, ◌≤◌, ◌<◌, length, get_or}
use Rattle.std.proofs.Common.{sym, ◌∙◌, mod-lt, div-lt_iff_lt-mul, div-add-mod', arith, refl, ap}
use Rattle.std.proofs.Math.Decide.{dec_lt}
use Rattle.std.proofs.lemmas.List.{get_or_past}
use Rattle.definitions.specs.Arithmetic.{sum_to}
use Rattle.laws.specs.Sizes.{Counts}
use Rattle.plan.specs.Orders.{OrderOn, constant}
use Rattle.plan.specs.Names.{Name, ZeroCell}
use Rattle.plan.specs.Entries.{all_at}
use Rattle.plan.specs.Loops.{loop}
use Rattle.plan.specs.Running.{subset_block}
use Rattle.plan.specs.Blocks.{cut_turn, test_order, gain_turn}
use Rattle.plan.specs.Subsets.{lowest}
use Rattle.orders.specs.Limits.{part_limit, stretch_limit}
use Rattle.orders.specs.declared.shape.Columns.{Columns}
use Rattle.orders.specs.declared.shape.Shape.{Shape}
use Rattle.orders.specs.declared.shape.Spot.{Spot}
use Rattle.orders.specs.Named.{made, at_turn, subset_lowest}
use Rattle.plan.specs.Phased.{PartOf, no_part, part_at, part_size, row_size, phase_size, phase_in, Has, has_here, in_even, block_each, even_length}
use Rattle.plan.specs.Table.{Phase, cut_phase, size_before_phase, table, phase_at, phase_count, table_length}
use Rattle.plan.specs.Plan.{PlacedOrder}
use Rattle.plan.proofs.PlanFacts.{table_placed}

pub positive_right : (a b x : ℕ) → x < a * b → 0 < b
positive_right a zero x h = absurd (omega arith)
positive_right a (suc b) x h = omega arith

-- ---- a phase's numbers

-- t has the numbers of part q
abbrev pub IsPart : Phase → ℕ → Columns → Type 0
IsPart p q t = (t.count ≡ (part_at p q).columns) × (t.turn ≡ (part_at p q).turn)

-- s has the numbers of phase p
pub record IsShape (p : Phase) (s : Shape) : Type 0 where
  pub rows : s.rows ≡ p.rows
  pub most : length p.parts ≤ part_limit
  pub parts : (q : ℕ) (d : Columns) → q < part_limit → IsPart p q (get_or s.parts q d)

-- by four parts
pub shape_of_parts : (p : Phase) (s : Shape) (t u v w : Columns) → s.rows ≡ p.rows → s.parts ≡ t ∷ u ∷ v ∷ w ∷ [] → length p.parts ≤ part_limit
    → IsPart p 0 t → IsPart p 1 u → IsPart p 2 v → IsPart p 3 w → IsShape p s
shape_of_parts p s t u v w rows e most a b c d = record { rows = rows; most = most; parts = go }
  where
    go : (q : ℕ) (x : Columns) → q < part_limit → IsPart p q (get_or s.parts q x)
    go zero x l = rw e a
    go (suc zero) x l = rw e b
    go (suc (suc zero)) x l = rw e c
    go (suc (suc (suc zero))) x l = rw e d
    go (suc (suc (suc (suc q)))) x l = absurd (omega arith)

-- of a phase whose number is known
pub shape_known : (n m k K : ℕ) (s : Shape) (t u v w : Columns) → k ≡ K → s.rows ≡ (phase_at n m K).rows → s.parts ≡ t ∷ u ∷ v ∷ w ∷ []
    → length (phase_at n m K).parts ≤ part_limit → IsPart (phase_at n m K) 0 t → IsPart (phase_at n m K) 1 u → IsPart (phase_at n m K) 2 v → IsPart (phase_at n m K) 3 w
    → IsShape (phase_at n m k) s
shape_known n m k K s t u v w e rows parts most a b c d = rw e (shape_of_parts (phase_at n m K) s t u v w rows parts most a b c d)

-- a part of no columns
abbrev pub no_columns : Columns
no_columns = record { count = 0; turn = 0; few = omega arith; short = omega arith }

-- part q as the code has it
abbrev pub part_in : Shape → ℕ → Columns
part_in s q = get_or s.parts q no_columns

-- how many orders part q has
abbrev pub part_number : Shape → ℕ → ℕ
part_number s q = (part_in s q).count * (part_in s q).turn

-- each at most so many
abbrev pub SmallSizes : Shape → Type 0
SmallSizes s = (part_number s 0 ≤ stretch_limit) × (part_number s 1 ≤ stretch_limit) × (part_number s 2 ≤ stretch_limit) × (part_number s 3 ≤ stretch_limit)

-- and a row, by the four parts
abbrev pub row_number : Shape → ℕ
row_number s = part_number s 0 + (part_number s 1 + (part_number s 2 + part_number s 3))

pub four : (ts : List (PartOf (OrderOn Name))) (k : ℕ) → length ts ≤ part_limit
    → (let f : ℕ → ℕ = part_size (record { rows = k; parts = ts }) in f 0 + (f 1 + (f 2 + f 3)) ≡ sum_to (length ts) f)
unfolding sum_to
four [] k h = omega arith
four (a ∷ []) k h = omega arith
four (a ∷ (b ∷ [])) k h = omega arith
four (a ∷ (b ∷ (c ∷ []))) k h = omega arith
four (a ∷ (b ∷ (c ∷ (d ∷ [])))) k h = omega arith
four (a ∷ (b ∷ (c ∷ (d ∷ (e ∷ ts))))) k h = absurd (omega arith)

pub row_is : (p : Phase) (s : Shape) → IsShape p s → row_number s ≡ row_size p
unfolding row_size
row_is p s h =
    let a = h.parts 0 no_columns (omega arith) in
    let b = h.parts 1 no_columns (omega arith) in
    let c = h.parts 2 no_columns (omega arith) in
    let d = h.parts 3 no_columns (omega arith) in
    rw (a.0, a.1, b.0, b.1, c.0, c.1, d.0, d.1) (four p.parts p.rows h.most)

-- a phase's length
pub size_is : (p : Phase) (s : Shape) → IsShape p s → s.rows * row_number s ≡ phase_size p
size_is p s h = rw (row_is p s h, h.rows)

-- only parts that are there have columns
pub part_there : (p : Phase) (q j : ℕ) → j < (part_at p q).columns → q < length p.parts
part_there p q j h = elim (dec_lt q (length p.parts)) [
  | yes l ↦ l
  | no l ↦ absurd (omega (arith, ap (λ (t : PartOf (OrderOn Name)). t.columns) (get_or_past p.parts q no_part (omega arith))))
]

-- ---- a place in a phase

-- an order of a phase stands there
pub record InPhase (p : Phase) (s : Spot) : Type 0 where
  pub row : s.row < p.rows
  pub part : s.part < length p.parts
  pub column : s.column < (part_at p s.part).columns
  pub place : s.turn < (part_at p s.part).turn

-- the order there; shut, so that a proof need not write the phase again
unfoldable pub order_in : Phase → Spot → OrderOn Name
order_in p s = made ((part_at p s.part).block s.row s.column) s.turn

-- in part q, known by an equation
pub in_part : (p : Phase) (s : Spot) (q : ℕ) → s.part ≡ q → InPhase p s → (s.column < (part_at p q).columns) × (s.turn < (part_at p q).turn)
in_part p s q e h = (rw e at h.column, rw e at h.place)

pub of_part : (p : Phase) (s : Spot) (q : ℕ) (w : OrderOn Name) → s.part ≡ q → w ≡ made ((part_at p q).block s.row s.column) s.turn → w ≡ order_in p s
unfolding order_in
of_part p s q w e f = f ∙ rw e

-- the only order of part q
pub one_of : (p : Phase) (s : Spot) (q : ℕ) (w : OrderOn Name) → s.part ≡ q → InPhase p s → (part_at p q).turn ≡ 1
    → w ≡ get_or ((part_at p q).block s.row s.column) 0 (constant ZeroCell 0) → w ≡ order_in p s
one_of p s q w e h f g = of_part p s q w e (at_turn ((part_at p q).block s.row s.column) w s.turn 0 (omega (arith, (in_part p s q e h).1)) g)

-- of two parts the second, and its only order
module _ (p : Phase) (s : Spot) (w : OrderOn Name) (a : s.part ≢ 0) (h : InPhase p s) (two : length p.parts ≡ 2) where
  pub is_second : s.part ≡ 1
  is_second = omega (arith, h.part)

  pub of_second : w ≡ made ((part_at p 1).block s.row s.column) s.turn → w ≡ order_in p s
  of_second f = of_part p s 1 w is_second f

  pub one_of_second : (part_at p 1).turn ≡ 1 → w ≡ get_or ((part_at p 1).block s.row s.column) 0 (constant ZeroCell 0) → w ≡ order_in p s
  one_of_second f g = one_of p s 1 w is_second h f g

-- a part that sums over subsets of the cells X: the code knows the cell of the lowest pool
pub sum_at : (p : Phase) (s : Spot) (q m : ℕ) (X : ℕ → Name) → s.part ≡ q → InPhase p s → (part_at p q).turn ≡ 1
    → (part_at p q).block s.row s.column ≡ subset_block m X s.column
    → (w : OrderOn Name) (c : Name) → w ≡ made (subset_block m (λ _. c) s.column) 0 → c ≡ X (lowest m s.column) → w ≡ order_in p s
unfolding made
sum_at p s q m X e h f b w c g l =
    one_of p s q w e h f (g ∙ subset_lowest m s.column X c l ∙ ap (λ (x : List (OrderOn Name)). get_or x 0 (constant ZeroCell 0)) (sym b))

-- the first order of a longer block, and those behind it
pub head_of : (p : Phase) (s : Spot) (q : ℕ) (w : OrderOn Name) → s.part ≡ q → s.turn ≡ 0
    → w ≡ get_or ((part_at p q).block s.row s.column) 0 (constant ZeroCell 0) → w ≡ order_in p s
head_of p s q w e f g = of_part p s q w e (at_turn ((part_at p q).block s.row s.column) w s.turn 0 f g)

pub loop_of : (p : Phase) (s : Spot) (q k size : ℕ) (o : OrderOn Name) (f : ℕ → List (OrderOn Name)) → s.part ≡ q → 1 ≤ s.turn
    → (part_at p q).block s.row s.column ≡ o ∷ loop k f → ((x : ℕ) → length (f x) ≡ size)
    → s.turn - 1 < k * size → (w : OrderOn Name) → w ≡ made (f ((s.turn - 1) / size)) ((s.turn - 1) % size) → w ≡ order_in p s
unfolding order_in made
loop_of p s q k size o f e l b h a w g =
    let x : ℕ = s.turn - 1 in
    let some : 0 < size = positive_right k size x a in
    let next : s.turn ≡ suc x = omega arith in
    let block = has_here (f (x / size)) (x % size) (constant ZeroCell 0) (omega (arith, h (x / size), mod-lt x some)) in
    let there : get_or ((part_at p q).block s.row s.column) s.turn (constant ZeroCell 0) ≡ get_or (f (x / size)) (x % size) (constant ZeroCell 0) =
    (rw b
    (ap (λ (y : ℕ). get_or (o ∷ loop k f) y (constant ZeroCell 0)) next
    ∙ ap (λ (y : ℕ). get_or (loop k f) y (constant ZeroCell 0)) (sym (div-add-mod' x size))
    ∙ (in_even f size k h (x / size) (x % size) _ ((div-lt_iff_lt-mul some).1 a) block).is (constant ZeroCell 0))) in
    g ∙ rw e (sym there)

-- an entry of a loop of blocks of one order
one_each_lem : (f : ℕ → List (OrderOn Name)) (k : ℕ) → ((x : ℕ) → length (f x) ≡ 1) → (y : ℕ) → y < k
    → get_or (loop k f) y (constant ZeroCell 0) ≡ get_or (f y) 0 (constant ZeroCell 0)
one_each_lem f k h y l =
    let e : y ≡ y * 1 + 0 = omega arith in
    ap (λ (z : ℕ). get_or (loop k f) z (constant ZeroCell 0)) e
    ∙ (in_even f 1 k h y 0 _ l (has_here (f y) 0 (constant ZeroCell 0) (omega (arith, h y)))).is (constant ZeroCell 0)

-- the capacities of a cut, line after line
module _ (n m : ℕ) (s : Spot) (a : s.part ≢ 0) (b : s.turn ≢ 0) (h : InPhase (cut_phase n m) s) where
  second : s.part ≡ 1
  second = omega (arith, h.part)

  in_lines : s.turn - 1 < m * m
  in_lines = omega (arith, (in_part (cut_phase n m) s 1 second h).1)

  pub cut_pools : 0 < m
  cut_pools = positive_right m m (s.turn - 1) in_lines

  pub cut_at : (w : OrderOn Name) → w ≡ made (cut_turn s.column ((s.turn - 1) / m) ((s.turn - 1) % m)) 0 → w ≡ order_in (cut_phase n m) s
  unfolding made
  cut_at w g =
      loop_of (cut_phase n m) s 1 m m _ (λ x. loop m (cut_turn s.column x)) second (omega arith) refl
      (λ x. even_length (cut_turn s.column x) 1 m (λ y. refl) ∙ omega arith) in_lines w
      (g ∙ sym (one_each_lem (cut_turn s.column ((s.turn - 1) / m)) m (λ y. refl) ((s.turn - 1) % m) (mod-lt (s.turn - 1) cut_pools)))

-- the gains behind a test, pool after pool
module _ (n m : ℕ) (s : Spot) (a : s.part ≢ 0) (b : s.turn ≢ 0) (h : InPhase (size_before_phase n m) s) where
  pub gain_at : (w : OrderOn Name) → w ≡ made (gain_turn s.row s.column ((s.turn - 1) / 2)) ((s.turn - 1) % 2) → w ≡ order_in (size_before_phase n m) s
  gain_at w g =
      let there : s.part ≡ 1 = omega (arith, h.part) in
      loop_of (size_before_phase n m) s 1 m 2 (test_order s.row s.column) (gain_turn s.row s.column) there (omega arith) refl (λ p. refl)
      (omega (arith, (in_part (size_before_phase n m) s 1 there h).1)) w g

-- ---- phase k, known to be phase K, as an arm of a match knows it

module _ (n m k K : ℕ) (s : Spot) (e : k ≡ K) (h : InPhase (phase_at n m k) s) where
  pub place_known : InPhase (phase_at n m K) s
  place_known = rw e at h

  pub whole_known : (w : OrderOn Name) → w ≡ order_in (phase_at n m K) s → w ≡ order_in (phase_at n m k) s
  whole_known w f = rw e f

  -- where a row has one part
  module _ (one : length (phase_at n m K).parts ≡ 1) where
    first : s.part ≡ 0
    first = omega (arith, place_known.part)

    pub block_known : (w : OrderOn Name) → w ≡ made ((part_at (phase_at n m K) 0).block s.row s.column) s.turn → w ≡ order_in (phase_at n m k) s
    block_known w f = whole_known w (of_part (phase_at n m K) s 0 w first f)

    -- and a block one order
    pub only_known : (part_at (phase_at n m K) 0).turn ≡ 1 → (w : OrderOn Name) → w ≡ get_or ((part_at (phase_at n m K) 0).block s.row s.column) 0 (constant ZeroCell 0)
        → w ≡ order_in (phase_at n m k) s
    only_known single w f = whole_known w (one_of (phase_at n m K) s 0 w first place_known single f)

-- ---- the order at a place of the table

pub has_order : (p : Phase) (s : Spot) → InPhase p s → Has ((part_at p s.part).block s.row s.column) s.turn (order_in p s)
unfolding order_in made
has_order p s h = has_here ((part_at p s.part).block s.row s.column) s.turn (constant ZeroCell 0) (omega (arith, h.place, (part_at p s.part).fair s.row s.column))

pub order_placed : (n m k : ℕ) (s : Spot) → Counts n m → k < phase_count → InPhase (phase_at n m k) s → PlacedOrder n m (order_in (phase_at n m k) s)
unfolding order_in made phase_at
order_placed n m k s h a b =
    all_at (PlacedOrder n m) ((part_at (phase_in (table n m) k) s.part).block s.row s.column)
    (block_each (PlacedOrder n m) (table n m) (table_placed n m h.bids h.pools.most) k s.part s.row s.column (omega (arith, table_length n m)) b.part b.row b.column) s.turn
    (constant ZeroCell 0)
    (omega (arith, b.place, (part_at (phase_in (table n m) k) s.part).fair s.row s.column))
