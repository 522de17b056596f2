-- `side_in` meets its contract: each turn adds one bid's part.
use Rattle.std.proofs.Common.{ℕ, suc, ◌+◌, ◌*◌, ◌^◌, ◌≤◌, ◌<◌, ◌≡◌, ap, ◌∙◌, Bool, arith, ℤ, pos, nat_abs, ◌+ℤ◌, length, get_or, w32, to_z, of_z, to_z-of_z}
use mir.Facts.{to_z_pos}
use borrow.Author.Rules.{sfits_of}
use Rattle.definitions.specs.Limits.{pool_limit, bid_numbers, quantity_place}
use Rattle.definitions.specs.Arithmetic.{on, sum_to}
use Rattle.laws.specs.IntegerSize.{fits_size, size_fits}
use Rattle.laws.specs.SignedTests.{back}
use Rattle.laws.specs.BidTable.{pool_read, number_read}
use Rattle.laws.specs.Tests.{on_le}
use Rattle.sums.specs.declared.side.Side.{Side}
use Rattle.sums.specs.Pools.{stands, added_by, side_in}
use Rattle.sums.proofs.Summing.{summing_begins, summing_turn}
use Rattle.sums.proofs.pools.side_in.Goals as goal
use Rattle.sums.proofs.pools.side_in.Goals.{After-amount_in-part}

-- the pool's number
next_pool : (p : ℕ) → p < pool_limit → to_z w32 p +ℤ pos 1 ≡ pos (suc p)
next_pool p h = ap (λ (z : ℤ). z +ℤ pos 1) (to_z_pos w32 (let small : p < 2 ^ 31 = omega arith in small)) ∙ ap pos (let e : p + 1 ≡ suc p = omega arith in e)

pub loop-i-init : goal.loop-i-init
loop-i-init c = summing_begins _

-- the number that the code reads in place of each
moved : (side : Side) {n n' x x' q q' a a' : ℤ} → n ≡ n' → x ≡ x' → q ≡ q' → a ≡ a' → on (stands side n x q) (nat_abs a) ≡ on (stands side n' x' q') (nat_abs a')
moved side e f g h = cc (e, f, g, h)

-- this turn's part, and its size
part_is : (c : After-amount_in-part) → c.amount_in-part.result ≡ added_by c.args.side c.args.p c.args.table.now c.args.amounts.now c.loop-i.i
part_is c =
    let a = c.args in
    let i = c.loop-i.i in
    let front = c.as_chunks.ensures in
    let few = c.requires.p_lt_pool_limit in
    c.amount_in-part.ensures
    ∙ moved a.side (ap (λ (z : ℤ). to_z w32 (of_z w32 z)) (next_pool a.p few) ∙ to_z-of_z (fits_size w32 (pos (suc a.p)) (omega (arith, few))))
    (pool_read a.table.now front.front front.front_len i c.loop-i-test.true c.pool-1.given)
    (number_read a.table.now front.front front.front_len i c.loop-i-test.true quantity_place (omega arith) c.quantity-1.given)
    (back w32 (get_or a.amounts.now i (pos 0)) c.amount-1.given)

part_small : (c : After-amount_in-part) → c.amount_in-part.result ≤ 2 ^ 31
part_small c =
    let a = c.args in
    let i = c.loop-i.i in
    let amount : ℤ = get_or a.amounts.now i (pos 0) in
    let here : Bool = stands a.side (pos (suc a.p)) (get_or a.table.now (bid_numbers * i) (pos 0)) (get_or a.table.now (bid_numbers * i + quantity_place) (pos 0)) in
    omega (arith, part_is c, on_le here (nat_abs amount), size_fits w32 amount (sfits_of c.amount-1.given))

pub loop-i-preserved : goal.loop-i-preserved
loop-i-preserved c = summing_turn c.loop-i.invariant _ (part_is c) (part_small c)

pub returns : goal.returns
unfolding side_in
returns c =
    let a = c.args in
    let e : c.loop-i.i ≡ length a.amounts.now = omega arith in (
      c.loop-i.invariant.sum ∙ ap (λ (k : ℕ). sum_to k (added_by a.side a.p a.table.now a.amounts.now)) e,
      omega arith,
    )
