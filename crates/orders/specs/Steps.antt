-- What the walk through the tables knows of a place: in a row, in a phase, in the plan.
use Rattle.std.specs.Prelude.{◌≡◌, refl, List, [], ◌∷◌, ℕ, zero, suc, ◌+◌, ◌*◌, ◌%◌, ◌/◌, ◌≤◌, ◌<◌, length, get_or}
use Rattle.std.proofs.Common.{sym, ap, ◌∙◌, arith, mod-lt, div-lt_iff_lt-mul, div-add-mod'}
use Rattle.std.proofs.Math.Decide.{dec_lt}
use Rattle.std.proofs.lemmas.List.{get_or_past}
use Rattle.definitions.specs.Arithmetic.{sum_to}
use Rattle.plan.specs.Orders.{OrderOn}
use Rattle.plan.specs.Names.{Name}
use Rattle.definitions.specs.declared.Order.{Order}
use Rattle.definitions.specs.declared.Order.TheVariants.{Constant}
use Rattle.plan.specs.Plan.{plan}
use Rattle.plan.proofs.PlanFacts.{plan_has, plan_length}
use Rattle.plan.specs.Phased.{PartOf, no_part, no_phase, part_at, part_size, row_size, part_start, phase_size, phase_start, table_size, phase_in, row_of, all_rows, Has, in_row, in_rows, in_table}
use Rattle.plan.specs.Table.{Phase, table, phase_at, phase_count, table_length}
use Rattle.orders.specs.Limits.{phase_limit}
use Rattle.orders.specs.declared.shape.Shape.{Shape}
use Rattle.orders.specs.declared.shape.Spot.{Spot}
use Rattle.orders.specs.Named.{numbered_of}
use Rattle.orders.specs.Shaped.{IsShape, part_number, no_columns, part_there, four, InPhase, order_in, has_order, positive_right}
use Rattle.orders.specs.Tables.{IsSizes}
use Rattle.orders.specs.Stretches.{start, start_is, from_start}

-- r is the machine's order for entry x of a list over names
pub record IsAt (n m : ℕ) (l : List (OrderOn Name)) (x : ℕ) (r : Order) : Type 0 where
  pub order : OrderOn Name
  pub there : Has l x order
  pub is : r ≡ numbered_of n m order

-- before the first phase there is nothing
pub first_phase_start : (ps : List Phase) (x : ℕ) → phase_start ps 0 + x ≡ x
unfolding phase_start sum_to
first_phase_start ps x = omega arith

-- ---- in a row

-- place x of a row is place y of part q
pub record Lies (p : Phase) (x q y : ℕ) : Type 0 where
  pub left : x ≡ part_start p q + y
  pub inside : y < part_size p q

module _ (p : Phase) (x q y turn : ℕ) (h : Lies p x q y) (e : turn ≡ (part_at p q).turn) where
  pub some_turn : 0 < turn
  some_turn = rw e (positive_right (part_at p q).columns (part_at p q).turn y h.inside)

  module _ (i : ℕ) (a : i < p.rows) where
    -- that place
    abbrev spot : Spot
    spot = record { row = i; part = q; column = y / turn; turn = y % turn }

    pub found : InPhase p spot
    found =
        let column : y / turn < (part_at p q).columns = (div-lt_iff_lt-mul some_turn).1 (rw (← e) at h.inside) in
        record { row = a; part = part_there p q (y / turn) column; column = column; place = rw (← e) (mod-lt y some_turn) }

    pub found_at : (n m : ℕ) (r : Order) → r ≡ numbered_of n m (order_in p spot) → IsAt n m (row_of p i) x r
    found_at n m r f =
        let has = in_row p i q (y / turn) (y % turn) _ found.part found.column (has_order p spot found) in
        let w : x ≡ part_start p q + ((y / turn) * (part_at p q).turn + y % turn)
        = h.left ∙ ap (λ (z : ℕ). part_start p q + z) (sym (div-add-mod' y turn) ∙ ap (λ (z : ℕ). (y / turn) * z + y % turn) e) in
        record { order = order_in p spot; there = rw w has; is = f }

-- the sizes of the four parts
module _ (p : Phase) (s : Shape) (h : IsShape p s) (sizes : List ℕ) (e : sizes ≡ part_number s 0 ∷ part_number s 1 ∷ part_number s 2 ∷ part_number s 3 ∷ []) where
  parts_sized : (u : ℕ) → get_or sizes u 0 ≡ part_size p u
  parts_sized zero = let t = h.parts 0 no_columns (omega arith) in rw (e, t.0, t.1) refl
  parts_sized (suc zero) = let t = h.parts 1 no_columns (omega arith) in rw (e, t.0, t.1) refl
  parts_sized (suc (suc zero)) = let t = h.parts 2 no_columns (omega arith) in rw (e, t.0, t.1) refl
  parts_sized (suc (suc (suc zero))) = let t = h.parts 3 no_columns (omega arith) in rw (e, t.0, t.1) refl
  parts_sized (suc (suc (suc (suc u)))) =
      rw e (sym (ap (λ (t : PartOf (OrderOn Name)). t.columns * t.turn) (get_or_past p.parts (suc (suc (suc (suc u)))) no_part (omega (arith, h.most)))))

  -- the row's end by them
  pub row_end : start sizes (length sizes) ≡ row_size p
  unfolding start sum_to row_size
  row_end = rw e (omega (arith, parts_sized 0, parts_sized 1, parts_sized 2, parts_sized 3, rw e at (parts_sized 0), rw e at (parts_sized 1), rw e at (parts_sized 2), rw e at (parts_sized 3), four p.parts p.rows h.most))

  pub lies : (x q y : ℕ) → start sizes q + y ≡ start sizes 0 + x → y < get_or sizes q 0 → Lies p x q y
  unfolding part_start
  lies x q y same inside = record {
    left = sym (from_start sizes x) ∙ sym same ∙ ap (λ (z : ℕ). z + y) (start_is sizes (part_size p) parts_sized q);
    inside = rw (parts_sized q) at inside;
  }

-- ---- in a phase

module _ (p : Phase) (y row : ℕ) (e : row ≡ row_size p) (a : y < phase_size p) where
  pub row_positive : 0 < row
  row_positive = rw e (positive_right p.rows (row_size p) y a)

  pub row_within : y / row < p.rows
  row_within = (div-lt_iff_lt-mul row_positive).1 (rw (← e) at a)

  pub place_within_lem : y % row < row_size p
  place_within_lem = rw (← e) (mod-lt y row_positive)

  pub row_is_at : (n m : ℕ) (r : Order) → IsAt n m (row_of p (y / row)) (y % row) r → IsAt n m (all_rows p) y r
  row_is_at n m r q =
      let has = in_rows p (y / row) (y % row) q.order row_within q.there in
      let w : y ≡ (y / row) * row_size p + y % row = sym (div-add-mod' y row) ∙ ap (λ (z : ℕ). (y / row) * z + y % row) e in
      record { order = q.order; there = rw w has; is = q.is }

-- ---- in the plan

module _ (n m : ℕ) (sizes : List ℕ) (long : length sizes ≡ phase_count) (h : IsSizes n m sizes) where
  phases_sized : (u : ℕ) → get_or sizes u 0 ≡ phase_size (phase_in (table n m) u)
  unfolding phase_at row_size sum_to
  phases_sized u = elim (dec_lt u phase_count) [
    | yes l ↦ (h u l).is
    | no l ↦
        get_or_past sizes u 0 (omega arith)
        ∙ sym (ap (λ (p : Phase). phase_size p) (get_or_past (table n m) u no_phase (omega (arith, table_length n m))))
  ]

  -- the plan's end by the sizes
  pub plan_end : start sizes (length sizes) ≡ length (plan n m)
  unfolding table_size
  plan_end =
      start_is sizes _ phases_sized (length sizes)
      ∙ ap (λ (k : ℕ). sum_to k (λ u. phase_size (phase_in (table n m) u))) (long ∙ sym (table_length n m))
      ∙ sym (plan_length n m)

  -- the plan's order at a place
  pub plan_at : (k y : ℕ) (r : Order) → k < phase_count → IsAt n m (all_rows (phase_at n m k)) y r → r ≡ get_or (plan n m) (start sizes k + y) (Constant 0 0)
  unfolding numbered_of phase_at phase_start
  plan_at k y r l q =
      let has = in_table (table n m) k y q.order (omega (arith, l, table_length n m)) q.there in
      let e : start sizes k + y ≡ phase_start (table n m) k + y = ap (λ (z : ℕ). z + y) (start_is sizes _ phases_sized k) in
      q.is ∙ sym ((plan_has n m (start sizes k + y) q.order (rw e has)).is (Constant 0 0))

-- the first k sizes are added
pub record Counted (sizes : List ℕ) (sum k : ℕ) : Type 0 where
  pub is : sum ≡ start sizes k
  pub bound : sum ≤ k * phase_limit
