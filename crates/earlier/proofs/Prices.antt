-- Prices with hundredths 0 compare as their whole parts (`less_same`, `equal_same`), and are in range as these were: a bid has the fault that it had
-- (`fault_before`).
use Rattle.std.specs.Prelude.{ℕ, ◌≡◌, refl, Bool, true, false, cond, ◌&&◌, ℤ, pos, neg_ℤ}
use Rattle.std.proofs.Common.{ap, arith}
use Rattle.std.proofs.lemmas.Int.{ints}
use Rattle.std.specs.Int.Signed.{le_z, lt_z}
use Rattle.definitions.specs.Arithmetic.{within, eq_z}
use Rattle.definitions.specs.Book.{in_hundredths}
use Rattle.definitions.specs.Calls.{price_in_range, bid_fault}
use Rattle.earlier.specs.Limits.{price_limit, quantity_limit}
use Rattle.earlier.specs.Earlier as earlier

module _ (x y : ℤ) where
  pub less_same : lt_z (in_hundredths x (pos 0)) (in_hundredths y (pos 0)) ≡ lt_z x y
  less_same = grind (arith, ints)

  pub equal_same : eq_z (in_hundredths x (pos 0)) (in_hundredths y (pos 0)) ≡ eq_z x y
  equal_same = grind (arith, ints)

  at_most_same : le_z (in_hundredths x (pos 0)) (in_hundredths y (pos 0)) ≡ le_z x y
  at_most_same = grind (arith, ints)

-- the second of two tests, asked once more
and_again : (s t : Bool) {u : Bool} → u ≡ t → ((s && t) && (true && u)) ≡ (s && t)
and_again true true e = e
and_again true false e = refl
and_again false t e = refl

-- a price is in range exactly if it was
in_range_same : (price : ℤ) → price_in_range price (pos 0) ≡ within (neg_ℤ (pos price_limit)) (pos price_limit) price
in_range_same price = and_again (le_z (neg_ℤ (pos price_limit)) price) (le_z price (pos price_limit)) (at_most_same price (pos price_limit))

-- three numbers, and hundredths of 0, have the fault that the three numbers had
pub fault_before : (m : ℕ) (pool price quantity : ℤ) → bid_fault m pool price quantity (pos 0) ≡ earlier.bid_fault m pool price quantity
fault_before m pool price quantity =
    ap (λ (priced : Bool). cond (within (pos 1) (pos m) pool) (cond priced (cond (within (neg_ℤ (pos quantity_limit)) (pos quantity_limit) quantity) 0 6) 5) 4)
    (in_range_same price)
