-- Only the amounts of the book's bids and the flows of its lines count: clearings that share them are feasible, best, permitted together.
use Rattle.std.specs.Prelude.{◌≡◌, Bool, true, false, not, ◌&&◌, cond, ℕ, ◌-◌, ◌≤◌, ◌<◌}
use Rattle.std.proofs.Common.{sym, ap, ◌∙◌, arith}
use Rattle.definitions.specs.Arithmetic.{on}
use Rattle.definitions.specs.Book.{Book, purchase, sale, size, in_pool}
use Rattle.definitions.specs.Clearing.{Clearing, Feasible, sold, bought, inflow, outflow, used, NoGreater, equal, less, Best, Permitted}
use Rattle.laws.specs.Sum.{sum_ext}
use Rattle.theory.specs.FlowOrder as rows
use Rattle.theory.specs.FlowOrder.{NoLaterFlows, FirstFlows}

used_back : (t : Bool) (a c u : ℕ) → a ≤ u → c ≤ u → cond (not t) a (u - a) ≡ cond (not t) c (u - c) → a ≡ c
used_back true a c u h k e = omega arith
used_back false a c u h k e = e

-- used amounts decide accepted amounts
pub accepted_by_used : (B : Book) (c d : Clearing) → Feasible B c → Feasible B d → (i : ℕ) → i < B.n → used B c.accepted i ≡ used B d.accepted i → c.accepted i ≡ d.accepted i
unfolding used
accepted_by_used B c d h k i l e = used_back (purchase B i) (c.accepted i) (d.accepted i) (size B i) (h.amounts i l) (k.amounts i l) e

pub used_same : (B : Book) (a c : ℕ → ℕ) (i : ℕ) → a i ≡ c i → used B a i ≡ used B c i
unfolding used
used_same B a c i e = ap (λ (z : ℕ). cond (sale B i) z (size B i - z)) e

pub feasible_amounts : (B : Book) (a c : ℕ → ℕ) (f : ℕ → ℕ → ℕ) → ((i : ℕ) → i < B.n → a i ≡ c i)
    → Feasible B (record { accepted = a; flow = f }) → Feasible B (record { accepted = c; flow = f })
unfolding sold bought
feasible_amounts B a c f e h = record {
  amounts = λ i l. omega (arith, e i l, h.amounts i l);
  flows = h.flows;
  balance = λ p l. omega (
    arith,
    h.balance p l,
    sum_ext B.n _ _ (λ i r. ap (on (sale B i && in_pool B p i)) (e i r)),
    sum_ext B.n _ _ (λ i r. ap (on (purchase B i && in_pool B p i)) (e i r)),
  );
}

-- clearings with the same amounts and flows are feasible, best, permitted, or have the first flows together
module _ (B : Book) (c d : Clearing) (amounts : (i : ℕ) → i < B.n → c.accepted i ≡ d.accepted i)
    (flows : (a b : ℕ) → a < B.m → b < B.m → c.flow a b ≡ d.flow a b) where
  pub feasible_same_clearing : Feasible B c → Feasible B d
  unfolding inflow outflow
  feasible_same_clearing h =
      let f = feasible_amounts B c.accepted d.accepted c.flow amounts h in
      record {
        amounts = f.amounts;
        flows = λ a b l r. omega (arith, flows a b l r, h.flows a b l r);
        balance = λ p l. omega (
          arith,
          f.balance p l,
          sum_ext B.m (λ a. c.flow a p) (λ a. d.flow a p) (λ a r. flows a p r l),
          sum_ext B.m (λ b. c.flow p b) (λ b. d.flow p b) (λ b r. flows p b l r),
        );
      }

  no_greater_same : (y : ℕ → ℕ) → NoGreater B y (used B c.accepted) → NoGreater B y (used B d.accepted)
  no_greater_same y (equal e) = equal (λ i l. e i l ∙ used_same B c.accepted d.accepted i (amounts i l))
  no_greater_same y (less i l p e) =
      less i l (omega (arith, p, used_same B c.accepted d.accepted i (amounts i l))) (λ j r q. e j r q ∙ used_same B c.accepted d.accepted j (amounts j r))

  pub best_same : Best B c → Best B d
  best_same h = record {
    feasible = feasible_same_clearing h.feasible;
    greatest = λ e k. no_greater_same (used B e.accepted) (h.greatest e k);
  }

  pub permitted_same : Permitted B c → Permitted B d
  permitted_same h = record {
    feasible = feasible_same_clearing h.feasible;
    one_way = λ a b l r p. sym (flows b a r l) ∙ h.one_way a b l r (omega (arith, flows a b l r));
  }

  no_later_same : (h : ℕ → ℕ → ℕ) → NoLaterFlows B c.flow h → NoLaterFlows B d.flow h
  no_later_same h (rows.equal e) = rows.equal (λ a b l r. sym (flows a b l r) ∙ e a b l r)
  no_later_same h (rows.less a b l r p e) = rows.less a b l r (omega (arith, p, flows a b l r)) (λ x y u v q. sym (flows x y u v) ∙ e x y u v q)

  pub first_flows_same : FirstFlows B c → FirstFlows B d
  first_flows_same h = record {
    feasible = feasible_same_clearing h.feasible;
    first = λ e k q. no_later_same e.flow (h.first e k (λ i l. q i l ∙ sym (amounts i l)));
  }
