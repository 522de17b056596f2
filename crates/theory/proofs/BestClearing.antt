-- The first flows of a best clearing: they exist, are permitted, and are unique.
use Rattle.std.specs.Prelude.{◌≡◌, ℕ, ◌<◌}
use Rattle.std.proofs.Common.{sym, ◌∙◌}
use Rattle.definitions.specs.Book.{Book}
use Rattle.definitions.specs.Clearing.{Clearing, Best, Permitted}
use Rattle.definitions.specs.Calls.{AcceptedBook}
use Rattle.laws.specs.AcceptedBook.{accepted_sound}
use Rattle.theory.specs.FlowOrder.{FirstFlows}
use Rattle.theory.proofs.Dictionary.{no_later_antisymmetric}
use Rattle.theory.specs.SameClearing.{feasible_amounts}
use Rattle.theory.specs.CutClearing.{cut_clearing, cut_best, cut_permitted}
use Rattle.theory.specs.BestClearing.{best_unique}
use Rattle.theory.proofs.CutClearing.{cut_first_flows}

-- to the accepted amounts of every best clearing there are permitted flows, and these are the first by rows among all that make the amounts feasible
pub first_flows_exist : (B : Book) → AcceptedBook B → (c : Clearing) → Best B c
    → (f : ℕ → ℕ → ℕ) × Permitted B (record { accepted = c.accepted; flow = f }) × FirstFlows B (record { accepted = c.accepted; flow = f })
first_flows_exist B h c b =
    let ok = accepted_sound B h in
    let f = (cut_clearing B).flow in
    let same : (i : ℕ) → i < B.n → (cut_clearing B).accepted i ≡ c.accepted i = best_unique B h (cut_clearing B) c (cut_best B ok) b in
    let feasible = feasible_amounts B (cut_clearing B).accepted c.accepted f same (cut_best B ok).feasible in (
      f,
      record { feasible = feasible; one_way = (cut_permitted B ok).one_way },
      record { feasible = feasible; first = λ d k e. (cut_first_flows B ok).first d k (λ i l. e i l ∙ sym (same i l)) },
    )

-- the first flows are unique
pub first_flows_unique : (B : Book) → AcceptedBook B → (c d : Clearing) → FirstFlows B c → FirstFlows B d
    → ((i : ℕ) → i < B.n → c.accepted i ≡ d.accepted i) → (a b : ℕ) → a < B.m → b < B.m → c.flow a b ≡ d.flow a b
first_flows_unique B h c d f g e =
    no_later_antisymmetric B (accepted_sound B h) c.flow d.flow (f.first d g.feasible (λ i l. sym (e i l))) (g.first c f.feasible e)
