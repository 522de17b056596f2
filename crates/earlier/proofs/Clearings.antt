-- Of a widened book a clearing is feasible exactly if it was, its bids stand in the merit order as they did, and a clearing is best exactly if it was
-- (`best`, `was_best`).
use Rattle.std.specs.Prelude.{ℕ, ◌≡◌, refl}
use Rattle.std.proofs.Common.{sym, ◌∙◌, arith}
use Rattle.definitions.specs.Clearing.{Clearing, Feasible, NoGreater, equal, less, Best, sold, bought, inflow, outflow, before, used}
use Rattle.laws.specs.Sum.{sum_ext}
use Rattle.earlier.specs.Earlier as earlier
use Rattle.earlier.specs.Widened.{widened_book, same_clearing}
use Rattle.earlier.proofs.Bids.{price_is, purchase_same, sale_same, size_same, in_pool_same}
use Rattle.earlier.proofs.Prices.{less_same, equal_same}

-- the clearing with the same amounts and flows, as it was
abbrev pub earlier_clearing : Clearing → earlier.Clearing
earlier_clearing d = record { accepted = d.accepted; flow = d.flow }

module _ (B : earlier.Book) where
  -- ---- feasible clearings

  sold_same : (a : ℕ → ℕ) (p : ℕ) → sold (widened_book B) a p ≡ earlier.sold B a p
  unfolding sold earlier.sold
  sold_same a p = sum_ext B.n _ _ (λ i l. rw (sale_same B i, in_pool_same B i p) refl)

  bought_same : (a : ℕ → ℕ) (p : ℕ) → bought (widened_book B) a p ≡ earlier.bought B a p
  unfolding bought earlier.bought
  bought_same a p = sum_ext B.n _ _ (λ i l. rw (purchase_same B i, in_pool_same B i p) refl)

  inflow_same : (f : ℕ → ℕ → ℕ) (p : ℕ) → inflow (widened_book B) f p ≡ earlier.inflow B f p
  unfolding inflow earlier.inflow
  inflow_same f p = refl

  outflow_same : (f : ℕ → ℕ → ℕ) (p : ℕ) → outflow (widened_book B) f p ≡ earlier.outflow B f p
  unfolding outflow earlier.outflow
  outflow_same f p = refl

  feasible : (c : earlier.Clearing) → earlier.Feasible B c → Feasible (widened_book B) (same_clearing c)
  feasible c h = record {
    amounts = λ i l. rw (size_same B i) (h.amounts i l);
    flows = h.flows;
    balance = λ p l. omega (arith, h.balance p l, sold_same c.accepted p, bought_same c.accepted p, inflow_same c.flow p, outflow_same c.flow p);
  }

  was_feasible : (d : Clearing) → Feasible (widened_book B) d → earlier.Feasible B (earlier_clearing d)
  was_feasible d h = record {
    amounts = λ i l. rw (size_same B i) at (h.amounts i l);
    flows = h.flows;
    balance = λ p l. omega (arith, h.balance p l, sold_same d.accepted p, bought_same d.accepted p, inflow_same d.flow p, outflow_same d.flow p);
  }

  -- ---- the best clearing

  before_same : (j i : ℕ) → before (widened_book B) j i ≡ earlier.before B j i
  unfolding before earlier.before
  before_same j i =
      rw (
        price_is B j,
        price_is B i,
        less_same (earlier.price B j) (earlier.price B i),
        equal_same (earlier.price B j) (earlier.price B i),
        purchase_same B j,
        purchase_same B i,
      ) refl

  used_same : (a : ℕ → ℕ) (i : ℕ) → used (widened_book B) a i ≡ earlier.used B a i
  unfolding used earlier.used
  used_same a i = rw (sale_same B i, size_same B i) refl

  no_greater : (y x : ℕ → ℕ) → earlier.NoGreater B (earlier.used B y) (earlier.used B x) → NoGreater (widened_book B) (used (widened_book B) y) (used (widened_book B) x)
  no_greater y x (earlier.equal e) = equal (λ i l. used_same y i ∙ e i l ∙ sym (used_same x i))
  no_greater y x (earlier.less i l h e) =
      less i l (omega (arith, used_same y i, used_same x i)) (λ j r b. used_same y j ∙ e j r (sym (before_same j i) ∙ b) ∙ sym (used_same x j))

  was_no_greater : (y x : ℕ → ℕ) → NoGreater (widened_book B) (used (widened_book B) y) (used (widened_book B) x) → earlier.NoGreater B (earlier.used B y) (earlier.used B x)
  was_no_greater y x (equal e) = earlier.equal (λ i l. sym (used_same y i) ∙ e i l ∙ used_same x i)
  was_no_greater y x (less i l h e) =
      earlier.less i l (omega (arith, used_same y i, used_same x i)) (λ j r b. sym (used_same y j) ∙ e j r (before_same j i ∙ b) ∙ used_same x j)

  pub best : (c : earlier.Clearing) → earlier.Best B c → Best (widened_book B) (same_clearing c)
  best c h = record {
    feasible = feasible c h.feasible;
    greatest = λ d f. no_greater d.accepted c.accepted (h.greatest (earlier_clearing d) (was_feasible d f));
  }

  pub was_best : (d : Clearing) → Best (widened_book B) d → earlier.Best B (earlier_clearing d)
  was_best d h = record {
    feasible = was_feasible d h.feasible;
    greatest = λ c f. was_no_greater c.accepted d.accepted (h.greatest (same_clearing c) (feasible c f));
  }
