-- The best clearing of an accepted book: it exists, with permitted flows; it is unique; it has the greatest welfare.
use Rattle.std.specs.Prelude.{◌≡◌, ℕ, ◌<◌, ℤ, ◌≤ℤ◌}
use Rattle.std.proofs.Common.{subst}
use Rattle.definitions.specs.Book.{Book}
use Rattle.definitions.specs.Clearing.{Clearing, Feasible, Best, Permitted, before, used, welfare}
use Rattle.definitions.specs.Calls.{AcceptedBook}
use Rattle.definitions.specs.RunningSum.{sales_welfare}
use Rattle.laws.specs.AcceptedBook.{accepted_sound}
use Rattle.laws.specs.SameAmounts.{welfare_same, sales_welfare_same}
use Rattle.theory.specs.StrictOrder.{StrictTotal}
use Rattle.theory.specs.BookNetwork.{before_strict_total}
use Rattle.theory.specs.Dictionary.{no_greater_antisymmetric}
use Rattle.theory.specs.SameClearing.{accepted_by_used}
use Rattle.theory.specs.CutClearing.{cut_clearing, cut_best, cut_permitted, cut_welfare}

-- the merit order is a strict total order on the bids
pub merit_order_total : (B : Book) → AcceptedBook B → StrictTotal B.n (before B)
merit_order_total B h = before_strict_total B (accepted_sound B h)

-- a best clearing exists, with permitted flows
pub best_exists : (B : Book) → AcceptedBook B → (c : Clearing) × Best B c × Permitted B c
best_exists B h = let ok = accepted_sound B h in (cut_clearing B, cut_best B ok, cut_permitted B ok)

-- its accepted amounts are unique
pub best_unique : (B : Book) → AcceptedBook B → (c d : Clearing) → Best B c → Best B d → (i : ℕ) → i < B.n → c.accepted i ≡ d.accepted i
best_unique B h c d b e i l =
    accepted_by_used B c d b.feasible e.feasible i l
    (no_greater_antisymmetric B (accepted_sound B h) (used B c.accepted) (used B d.accepted) (e.greatest c b.feasible) (b.greatest d e.feasible) i l)

-- "It has the greatest welfare too"
pub best_welfare : (B : Book) → AcceptedBook B → (c : Clearing) → Best B c → (d : Clearing) → Feasible B d → welfare B d.accepted ≤ℤ welfare B c.accepted
best_welfare B h c b d f =
    let ok = accepted_sound B h in
    subst (λ (z : ℤ). welfare B d.accepted ≤ℤ z) (welfare_same B (cut_clearing B).accepted c.accepted (best_unique B h (cut_clearing B) c (cut_best B ok) b))
    (cut_welfare B ok d f)

-- so all best clearings have one welfare
pub welfare_of_best : (B : Book) → AcceptedBook B → (c d : Clearing) → Best B c → Best B d → welfare B c.accepted ≡ welfare B d.accepted
welfare_of_best B h c d b e = welfare_same B c.accepted d.accepted (best_unique B h c d b e)

-- and one welfare of the sales
pub sales_of_best : (B : Book) → AcceptedBook B → (c d : Clearing) → Best B c → Best B d → sales_welfare B c.accepted ≡ sales_welfare B d.accepted
sales_of_best B h c d b e = sales_welfare_same B c.accepted d.accepted (best_unique B h c d b e)
