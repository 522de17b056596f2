-- "Never rerouting gas already placed", of 'Costly mistakes': the first sale leaves the way by pool 2 to the second (`rerouted`).
use Rattle.std.specs.Prelude.{◌/◌, ◌%◌, ◌≡◌, refl, [], ◌∷◌, pos, neg_ℤ}
use Rattle.std.proofs.Common.{arith}
use Rattle.definitions.specs.Arithmetic.{sum_to, sum_z, all_to}
use Rattle.definitions.specs.Book.{Book, book}
use Rattle.definitions.specs.Clearing.{Clearing, Permitted, welfare, sold, bought, inflow, outflow, before}
use Rattle.definitions.specs.PoolPrice.{present, least_price}
use Rattle.definitions.specs.Calls.{seal_refusal, bids_refusal, capacities_refusal, row_refusal, first_from}
use Rattle.laws.specs.Extremes.{min_to}
use Rattle.theory.specs.Subsets.{member}
use Rattle.theory.specs.ClosedForms.{subset_sum, demand, cut, size_before, size_with, rank, used_amount, accepted_amount, placement, slack, reached}
use Rattle.theory.specs.PoolPrice.{supplied}
use Rattle.examples.specs.Examples.{listed, Cleared}
use Rattle.examples.proofs.Examples.{cleared}

-- "m 4, lines 1 to 2, 2 to 4, 1 to 3 and 3 to 4 carry 4, else 0; (1,10,−4), (2,20,−4), (4,30,8)"
unfoldable pub book_rerouted : Book
book_rerouted =
    book 3 4 (pos 1 ∷ pos 10 ∷ neg_ℤ (pos 4) ∷ pos 0 ∷ pos 2 ∷ pos 20 ∷ neg_ℤ (pos 4) ∷ pos 0 ∷ pos 4 ∷ pos 30 ∷ pos 8 ∷ pos 0 ∷ [])
    (pos 0 ∷ pos 4 ∷ pos 4 ∷ pos 0 ∷ pos 0 ∷ pos 0 ∷ pos 0 ∷ pos 4 ∷ pos 0 ∷ pos 0 ∷ pos 0 ∷ pos 4 ∷ pos 0 ∷ pos 0 ∷ pos 0 ∷ pos 0 ∷ [])

rerouted_flows : (c : Clearing) → Permitted book_rerouted c → c.accepted 0 ≡ 4 → c.accepted 2 ≡ 8
    → listed 16 (λ k. c.flow (k / 4) (k % 4)) ≡ 0 ∷ 0 ∷ 4 ∷ 0 ∷ 0 ∷ 0 ∷ 0 ∷ 4 ∷ 0 ∷ 0 ∷ 0 ∷ 4 ∷ 0 ∷ 0 ∷ 0 ∷ 0 ∷ []
unfolding book_rerouted listed sold bought inflow outflow sum_to
rerouted_flows c q x y =
    let z00 : c.flow 0 0 ≡ 0 = omega (arith, q.feasible.flows 0 0 (omega arith) (omega arith)) in
    let z03 : c.flow 0 3 ≡ 0 = omega (arith, q.feasible.flows 0 3 (omega arith) (omega arith)) in
    let z10 : c.flow 1 0 ≡ 0 = omega (arith, q.feasible.flows 1 0 (omega arith) (omega arith)) in
    let z11 : c.flow 1 1 ≡ 0 = omega (arith, q.feasible.flows 1 1 (omega arith) (omega arith)) in
    let z12 : c.flow 1 2 ≡ 0 = omega (arith, q.feasible.flows 1 2 (omega arith) (omega arith)) in
    let z20 : c.flow 2 0 ≡ 0 = omega (arith, q.feasible.flows 2 0 (omega arith) (omega arith)) in
    let z21 : c.flow 2 1 ≡ 0 = omega (arith, q.feasible.flows 2 1 (omega arith) (omega arith)) in
    let z22 : c.flow 2 2 ≡ 0 = omega (arith, q.feasible.flows 2 2 (omega arith) (omega arith)) in
    let z30 : c.flow 3 0 ≡ 0 = omega (arith, q.feasible.flows 3 0 (omega arith) (omega arith)) in
    let z31 : c.flow 3 1 ≡ 0 = omega (arith, q.feasible.flows 3 1 (omega arith) (omega arith)) in
    let z32 : c.flow 3 2 ≡ 0 = omega (arith, q.feasible.flows 3 2 (omega arith) (omega arith)) in
    let z33 : c.flow 3 3 ≡ 0 = omega (arith, q.feasible.flows 3 3 (omega arith) (omega arith)) in
    let a : c.flow 1 3 ≡ 4 = omega (arith, q.feasible.balance 3 (omega arith), q.feasible.flows 1 3 (omega arith) (omega arith), q.feasible.flows 2 3 (omega arith) (omega arith)) in
    let b : c.flow 2 3 ≡ 4 = omega (arith, q.feasible.balance 3 (omega arith), q.feasible.flows 2 3 (omega arith) (omega arith)) in
    let d : c.flow 0 2 ≡ 4 = omega (arith, q.feasible.balance 2 (omega arith)) in
    let e : c.flow 0 1 ≡ 0 = omega (arith, q.feasible.balance 0 (omega arith)) in
    rw (z00, z03, z10, z11, z12, z20, z21, z22, z30, z31, z32, z33, a, b, d, e) refl

-- "accepted are 4, 4, 8"
pub rerouted : Cleared book_rerouted (4 ∷ 4 ∷ 8 ∷ []) (0 ∷ 0 ∷ 4 ∷ 0 ∷ 0 ∷ 0 ∷ 0 ∷ 4 ∷ 0 ∷ 0 ∷ 0 ∷ 4 ∷ 0 ∷ 0 ∷ 0 ∷ 0 ∷ [])
    (present (pos 30) (pos 0) ∷ present (pos 30) (pos 0) ∷ present (pos 30) (pos 0) ∷ present (pos 30) (pos 0) ∷ []) (pos 12000)
unfolding book_rerouted listed seal_refusal bids_refusal capacities_refusal row_refusal first_from member subset_sum demand cut size_before size_with rank used_amount accepted_amount before sum_to all_to min_to placement slack reached supplied least_price welfare sum_z
rerouted = cleared book_rerouted _ _ _ _ refl refl (λ c q e. rerouted_flows c q (e 0 (omega arith)) (e 2 (omega arith))) refl refl
