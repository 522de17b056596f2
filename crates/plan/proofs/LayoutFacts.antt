-- Different names have different cells (`address_apart`).
use Rattle.std.specs.Prelude.{◌≡◌, Bool, ℕ, suc, ◌+◌, ◌*◌, ◌≤◌, ◌<◌}
use Rattle.std.proofs.Common.{ap, arith, subst}
use Rattle.std.proofs.Math.Arith.{digits_lt, digits_div, digits_mod}
use Rattle.definitions.specs.Arithmetic.{sum_to}
use Rattle.laws.specs.Sum.{sum_prefix}
use Rattle.laws.specs.Tests.{Lt?, less, more, lt?}
use Rattle.plan.specs.Names.{Family, number, family_at, Name, at}
use Rattle.plan.proofs.NameFacts.{at_number, number_same}
use Rattle.plan.specs.Layout.{base, address, Named}

module _ (rows columns : Family → ℕ) where
  table_end : (t : Family) (k : ℕ) → number t < k → base rows columns (number t) + rows t * columns t ≤ base rows columns k
  unfolding sum_to
  table_end t k h =
      subst (λ (u : Family). base rows columns (number t) + rows u * columns u ≤ base rows columns k) (at_number t)
      (sum_prefix (suc (number t)) k (λ u. rows (family_at u) * columns (family_at u)) h)

  pub base_grows : (t k : ℕ) → t ≤ k → base rows columns t ≤ base rows columns k
  base_grows t k h = sum_prefix t k (λ u. rows (family_at u) * columns (family_at u)) h

  pub address_below : (k : ℕ) (c : Name) → Named rows columns k c → address rows columns c < base rows columns k
  address_below k (at t i j) h = omega (arith, digits_lt h.1 h.2, table_end t k h.0)

  pub address_apart : (k : ℕ) (c d : Name) → Named rows columns k c → Named rows columns k d → address rows columns c ≡ address rows columns d → c ≡ d
  address_apart k (at t i j) (at u a b) h g e = go (lt? (number t) (number u)) (lt? (number u) (number t))
    where
      go : {x y : Bool} → Lt? (number t) (number u) x → Lt? (number u) (number t) y → at t i j ≡ at u a b
      go (less p) q = absurd (omega (arith, e, digits_lt h.1 h.2, table_end t (number u) p))
      go (more p) (less q) = absurd (omega (arith, e, digits_lt g.1 g.2, table_end u (number t) q))
      go (more p) (more q) =
          let tu : t ≡ u = number_same t u (omega arith) in
          let ee : i * columns t + j ≡ a * columns u + b = omega (arith, e, ap (λ (f : Family). base rows columns (number f)) tu) in
          cc (digits_div i h.2, digits_div a g.2, digits_mod i h.2, digits_mod a g.2, ap columns tu)
