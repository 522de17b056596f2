-- `part_of` meets its contract: its numbers are read back from their bits, and price × accepted fits.
use Rattle.std.proofs.Common.{◌*◌, ◌^◌, ◌<◌, ◌≤◌, ◌≡◌, refl, cond, true, sym, ap, ap₂, ◌∙◌, subst, arith, ℤ, pos, nat_abs, neg_ℤ, ◌-ℤ◌, ◌*ℤ◌, w32, w64, SFits, to_z, of_z, to_z-of_z}
use Rattle.std.proofs.Math.IntN.{+ℤ_idl}
use mir.Facts.{to_z_pos}
use Rattle.definitions.specs.Limits.{quantity_limit}
use Rattle.definitions.specs.Book.{in_hundredths}
use Rattle.laws.specs.SignedTests.{back}
use Rattle.laws.specs.IntegerSize.{fits_size, size_fits, size_neg, size_product}
use Rattle.sums.specs.declared.side.Side.{Side}
use Rattle.sums.specs.Sides.{on_side, side_value, price_bound, price_bounded}
use Rattle.sums.proofs.values.part_of.Goals as goal
use Rattle.sums.proofs.values.part_of.Goals.{After-price_in_hundredths}

-- price × accepted, the price in hundredths
abbrev worth : After-price_in_hundredths → ℤ
worth c = in_hundredths c.args.price c.args.hundredths *ℤ pos c.args.accepted

price_is : (c : After-price_in_hundredths) → c.price_in_hundredths.result ≡ in_hundredths c.args.price c.args.hundredths
price_is c = c.price_in_hundredths.ensures ∙ ap₂ in_hundredths (to_z-of_z c.ranges.price) (to_z-of_z c.ranges.hundredths)

worth_small : (c : After-price_in_hundredths) → nat_abs (worth c) ≤ price_bound * quantity_limit
worth_small c =
    let price : ℤ = in_hundredths c.args.price c.args.hundredths in
    let small : nat_abs price ≤ price_bound =
    price_bounded c.args.price c.args.hundredths (size_fits w32 c.args.price c.ranges.price) (size_fits w32 c.args.hundredths c.ranges.hundredths) in
    size_product price (pos c.args.accepted) price_bound quantity_limit small c.requires

worth_fits : (c : After-price_in_hundredths) → SFits w64 (worth c)
worth_fits c = fits_size w64 (worth c) (omega (arith, worth_small c))

-- taken off
loss_fits : (c : After-price_in_hundredths) → SFits w64 (neg_ℤ (worth c))
loss_fits c = fits_size w64 (neg_ℤ (worth c)) (omega (arith, size_neg (worth c), worth_small c))

product_is : (c : After-price_in_hundredths) → to_z w64 (of_z w64 c.price_in_hundredths.result) *ℤ to_z w64 c.args.accepted ≡ worth c
product_is c =
    let fit : c.args.accepted < 2 ^ 63 = omega (arith, c.requires) in
    ap₂ ◌*ℤ◌ (back w64 c.price_in_hundredths.result c.price_in_hundredths.type_inv ∙ price_is c) (to_z_pos w64 fit)

value_is : (c : After-price_in_hundredths) → to_z w64 (of_z w64 (to_z w64 (of_z w64 c.price_in_hundredths.result) *ℤ to_z w64 c.args.accepted)) ≡ worth c
value_is c = ap (λ (z : ℤ). to_z w64 (of_z w64 z)) (product_is c) ∙ to_z-of_z (worth_fits c)

loss_is : (c : After-price_in_hundredths) → pos 0 -ℤ to_z w64 (of_z w64 (to_z w64 (of_z w64 c.price_in_hundredths.result) *ℤ to_z w64 c.args.accepted)) ≡ neg_ℤ (worth c)
loss_is c = ap (λ (z : ℤ). pos 0 -ℤ z) (value_is c) ∙ +ℤ_idl (neg_ℤ (worth c))

-- the bid is on the side
here : (c : After-price_in_hundredths) → on_side c.args.side c.args.quantity ≡ true
here c = ap (on_side c.args.side) (sym (to_z-of_z c.ranges.quantity)) ∙ sym c.has.ensures ∙ c.if-not-has.false

pub overflow_mul-value : goal.overflow_mul-value
overflow_mul-value c =
    let p = (goal.at.overflow_mul-value c).After-price_in_hundredths in
    subst (SFits w64) (sym (product_is p)) (worth_fits p)

pub overflow_sub-result : goal.overflow_sub-result
overflow_sub-result c =
    let p = (goal.at.overflow_sub-result c).After-price_in_hundredths in
    subst (SFits w64) (sym (loss_is p)) (loss_fits p)

-- the bid is on this side, so it adds this
added : (side : Side) (quantity value : ℤ) → on_side side quantity ≡ true → side_value side value ≡ cond (on_side side quantity) (side_value side value) (pos 0)
added side quantity value h = rw h refl

pub returns-in-Sales : goal.returns-in-Sales
returns-in-Sales c =
    let p = (goal.at.returns-in-Sales c).After-price_in_hundredths in
    ap (λ (z : ℤ). to_z w64 (of_z w64 z)) (loss_is p)
    ∙ to_z-of_z (loss_fits p)
    ∙ ap (λ (side : Side). side_value side (worth p)) (sym c.in-Sales.is)
    ∙ added c.args.side c.args.quantity (worth p) (here p)

pub returns-in-Purchases : goal.returns-in-Purchases
returns-in-Purchases c =
    let p = (goal.at.returns-in-Purchases c).After-price_in_hundredths in
    value_is p
    ∙ ap (λ (side : Side). side_value side (worth p)) (sym c.in-Purchases.is)
    ∙ added c.args.side c.args.quantity (worth p) (here p)
