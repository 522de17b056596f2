-- `add_side` meets its contract: each turn adds one bid's part, which is bounded by its amount's limit and by the 32 bits of each part of its price.
use Rattle.std.proofs.Common.{ℕ, ◌+◌, ◌*◌, ◌^◌, ◌<◌, ◌≤◌, ◌≡◌, sym, ap, ap₂, ◌∙◌, subst, arith, ℤ, pos, nat_abs, ◌+ℤ◌, length, get_or, w32, w64, SFits, to_z, of_z, to_z-of_z}
use Rattle.std.specs.Int.Signed.{mag}
use mir.Val.{hbits}
use borrow.Author.Rules.{sfits_of}
use Rattle.definitions.specs.Limits.{bid_numbers, price_place, quantity_place, hundredths_place}
use Rattle.definitions.specs.Book.{in_hundredths}
use Rattle.laws.specs.SignedTests.{back}
use Rattle.laws.specs.BidTable.{number, number_at, number_read}
use Rattle.laws.specs.IntegerSize.{fits_size, size_fits, size_add}
use Rattle.sums.specs.declared.side.Side.{Side}
use Rattle.sums.specs.Sides.{side_part, sum_of_side, sum_of_side_next, price_bound, price_bounded, value_limit, part_small}
use Rattle.sums.proofs.values.add_side.Goals as goal
use Rattle.sums.proofs.values.add_side.Goals.{After-part_of-part}

pub loop-i-init : goal.loop-i-init
loop-i-init c =
    let begun = to_z-of_z {w = w64} c.ranges.start ∙ c.requires.begun in
    record { sum = begun; small = omega (arith, ap nat_abs begun) }

-- the running sum of one bid more
abbrev onward_sum : After-part_of-part → ℤ
onward_sum c = sum_of_side c.args.side c.args.table.now c.args.accepted.now (c.loop-i.i + 1)

-- the number that the code reads in place of each
part_moved : (side : Side) (accepted : ℕ) {x x' q q' h h' : ℤ} → x ≡ x' → q ≡ q' → h ≡ h'
    → side_part side (in_hundredths x h) q accepted ≡ side_part side (in_hundredths x' h') q' accepted
part_moved side accepted e f g = cc (e, f, g)

onward : (c : After-part_of-part) → to_z w64 c.loop-i.total-bits +ℤ to_z w64 (of_z w64 c.part_of-part.result) ≡ onward_sum c
onward c =
    let l = c.loop-i in
    let front = c.as_chunks.ensures in
    let table = c.args.table.now in
    let accepted = c.args.accepted.now in
    ap₂ ◌+ℤ◌ l.invariant.sum
    (back w64 c.part_of-part.result c.part_of-part.type_inv
    ∙ c.part_of-part.ensures
    ∙ part_moved c.args.side (get_or accepted l.i 0)
    (number_read table front.front front.front_len l.i c.loop-i-test.true price_place (omega arith) c.price-1.given)
    (number_read table front.front front.front_len l.i c.loop-i-test.true quantity_place (omega arith) c.quantity-1.given)
    (number_read table front.front front.front_len l.i c.loop-i-test.true hundredths_place (omega arith) c.hundredths-1.given))
    ∙ sym (sum_of_side_next table accepted c.args.side l.i)

-- a number of the bid is no greater than its 32 bits
size_read : (c : After-part_of-part) (j : ℕ) → j < bid_numbers → mag (number c.as_chunks.result.0.now c.loop-i.i j) < 2 ^ hbits w32
    → nat_abs (get_or c.args.table.now (bid_numbers * c.loop-i.i + j) (pos 0)) ≤ 2 ^ 31
size_read c j q given =
    let front = c.as_chunks.ensures in
    let i = c.loop-i.i in
    subst (λ (z : ℤ). nat_abs z ≤ 2 ^ 31) (number_at c.args.table.now front.front front.front_len i c.loop-i-test.true j q)
    (size_fits w32 (number c.as_chunks.result.0.now i j) (sfits_of given))

-- its size
onward_size : (c : After-part_of-part) → nat_abs (onward_sum c) ≤ nat_abs (to_z w64 (of_z w64 c.args.start)) + (c.loop-i.i + 1) * value_limit
onward_size c =
    let l = c.loop-i in
    let table = c.args.table.now in
    let accepted = c.args.accepted.now in
    let front = c.as_chunks.ensures in
    let whole : ℤ = get_or table (bid_numbers * l.i + price_place) (pos 0) in
    let hundredths : ℤ = get_or table (bid_numbers * l.i + hundredths_place) (pos 0) in
    let quantity : ℤ = get_or table (bid_numbers * l.i + quantity_place) (pos 0) in
    let amount = get_or accepted l.i 0 in
    let small : nat_abs (in_hundredths whole hundredths) ≤ price_bound =
    price_bounded whole hundredths
    (size_read c price_place (omega arith) c.price-1.given)
    (size_read c hundredths_place (omega arith) c.hundredths-1.given) in
    omega (
      arith,
      ap nat_abs (sum_of_side_next table accepted c.args.side l.i),
      l.invariant.small,
      size_add (sum_of_side c.args.side table accepted l.i) (side_part c.args.side (in_hundredths whole hundredths) quantity amount),
      part_small c.args.side (in_hundredths whole hundredths) quantity amount small (c.requires.fit.small l.i (omega arith)),
    )

fitting : (c : After-part_of-part) → SFits w64 (onward_sum c)
fitting c =
    fits_size w64 _ (omega (arith, onward_size c, ap nat_abs (to_z-of_z {w = w64} c.ranges.start), c.requires.start_small, c.requires.fit.few, c.loop-i-test.true))

pub overflow_add-total : goal.overflow_add-total
overflow_add-total c = subst (SFits w64) (sym (onward c)) (fitting c)

pub loop-i-preserved : goal.loop-i-preserved
loop-i-preserved c = record { sum = ap (λ (z : ℤ). to_z w64 (of_z w64 z)) (onward c) ∙ to_z-of_z (fitting c); small = onward_size c }

pub returns-clause-sum : goal.returns-clause-sum
returns-clause-sum c =
    let e : c.loop-i.i ≡ length c.args.accepted.now = omega arith in
    c.loop-i.invariant.sum ∙ ap (sum_of_side c.args.side c.args.table.now c.args.accepted.now) e

pub returns-clause-small : goal.returns-clause-small
returns-clause-small c =
    omega (arith, ap nat_abs c.loop-i.invariant.sum, c.loop-i.invariant.small, ap nat_abs (to_z-of_z {w = w64} c.ranges.start), c.requires.fit.few)
