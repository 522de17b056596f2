-- The worked examples hold.
use Rattle.std.specs.Prelude.{ℕ, zero, suc, ◌*◌, ◌≤◌, ◌<◌, ◌/◌, ◌%◌, ◌≡◌, refl, List, [], ◌∷◌, ℤ}
use Rattle.std.proofs.Common.{sym, ap₂, ◌∙◌, arith}
use Rattle.definitions.specs.Arithmetic.{sum_to, sum_z, all_to}
use Rattle.definitions.specs.Book.{Book}
use Rattle.definitions.specs.Examples.{book_one, book_two, book_three, book_four, book_five, book_six, book_seven}
use Rattle.definitions.specs.Clearing.{Clearing, Permitted, welfare, sold, bought, inflow, outflow, before}
use Rattle.definitions.specs.PoolPrice.{PoolPrice, pool_price, least_price}
use Rattle.definitions.specs.Bytes.{order_bytes, number_bytes, groups}
use Rattle.definitions.specs.Calls.{AcceptedBook, seal_refusal, bids_refusal, capacities_refusal, row_refusal, first_from}
use Rattle.laws.specs.Extremes.{min_to}
use Rattle.laws.specs.AcceptedBook.{bids_of, book_of}
use Rattle.theory.specs.Subsets.{member}
use Rattle.theory.specs.ClosedForms.{subset_sum, demand, cut, size_before, size_with, rank, used_amount, accepted_amount, placement, slack, reached}
use Rattle.theory.specs.PoolPrice.{supplied}
use Rattle.laws.specs.SameAmounts.{welfare_same}
use Rattle.theory.proofs.ClosedBest.{closed_accepted}
use Rattle.theory.proofs.PoolPrice.{closed_pool_price}
use Rattle.theory.specs.BestClearing.{best_exists}
use Rattle.examples.specs.Examples.{listed, Cleared, Edges, book_of_two_offers, ProvedExamples}

listed_same : {A : Type 0} (n : ℕ) (f h : ℕ → A) → ((i : ℕ) → i < n → f i ≡ h i) → listed n f ≡ listed n h
unfolding listed
listed_same zero f h e = refl
listed_same (suc n) f h e = ap₂ ◌∷◌ (e 0 (omega arith)) (listed_same n (λ i. f (suc i)) (λ i. h (suc i)) (λ i l. e (suc i) (omega arith)))

-- what is left to compute: the closed forms of the book
pub cleared : (B : Book) (amounts flows : List ℕ) (prices : List PoolPrice) (total : ℤ) → AcceptedBook B
    → listed B.n (λ i. accepted_amount B i) ≡ amounts
    → ((c : Clearing) → Permitted B c → ((i : ℕ) → i < B.n → c.accepted i ≡ accepted_amount B i) → listed (B.m * B.m) (λ k. c.flow (k / B.m) (k % B.m)) ≡ flows)
    → listed B.m (λ k. least_price B (supplied B k) B.n) ≡ prices
    → welfare B (λ i. accepted_amount B i) ≡ total
    → Cleared B amounts flows prices total
cleared B amounts flows prices total h a f p w = record {
  accepted = h;
  exists = best_exists B h;
  accepts = λ c b. listed_same B.n c.accepted (λ i. accepted_amount B i) (closed_accepted B h c b) ∙ a;
  ships = λ c b q. f c q (closed_accepted B h c b);
  priced = λ c b. listed_same B.m (pool_price B c) (λ k. least_price B (supplied B k) B.n) (λ k l. closed_pool_price B h c b k l) ∙ p;
  worth = λ c b. welfare_same B c.accepted (λ i. accepted_amount B i) (closed_accepted B h c b) ∙ w;
}

-- a single pool has no line
no_line : (c : Clearing) → c.flow 0 0 ≤ 0 → c.flow 0 0 ∷ [] ≡ 0 ∷ []
no_line c h = let z : c.flow 0 0 ≡ 0 = omega arith in rw z refl

-- a number that is 0 if it is above 0
zero_or : (v : ℕ) → (0 < v → v ≡ 0) → v ≡ 0
zero_or zero h = refl
zero_or (suc v) h = h (omega arith)

-- the flows that the balances leave
two_flows : (c : Clearing) → Permitted book_two c → c.accepted 0 ≡ 3 → listed 4 (λ k. c.flow (k / 2) (k % 2)) ≡ 0 ∷ 3 ∷ 0 ∷ 0 ∷ []
unfolding book_two listed sold bought inflow outflow sum_to
two_flows c q x =
    let a : c.flow 0 0 ≡ 0 = omega (arith, q.feasible.flows 0 0 (omega arith) (omega arith)) in
    let b : c.flow 1 0 ≡ 0 = omega (arith, q.feasible.flows 1 0 (omega arith) (omega arith)) in
    let d : c.flow 1 1 ≡ 0 = omega (arith, q.feasible.flows 1 1 (omega arith) (omega arith)) in
    let f : c.flow 0 1 ≡ 3 = omega (arith, q.feasible.balance 0 (omega arith)) in
    rw (a, b, d, f) refl

six_flows : (c : Clearing) → Permitted book_six c → c.accepted 0 ≡ 5 → c.accepted 2 ≡ 2 → listed 9 (λ k. c.flow (k / 3) (k % 3)) ≡ 0 ∷ 5 ∷ 0 ∷ 0 ∷ 0 ∷ 2 ∷ 0 ∷ 0 ∷ 0 ∷ []
unfolding book_six listed sold bought inflow outflow sum_to
six_flows c q x y =
    let a : c.flow 0 0 ≡ 0 = omega (arith, q.feasible.flows 0 0 (omega arith) (omega arith)) in
    let b : c.flow 0 2 ≡ 0 = omega (arith, q.feasible.flows 0 2 (omega arith) (omega arith)) in
    let d : c.flow 1 0 ≡ 0 = omega (arith, q.feasible.flows 1 0 (omega arith) (omega arith)) in
    let f : c.flow 1 1 ≡ 0 = omega (arith, q.feasible.flows 1 1 (omega arith) (omega arith)) in
    let g : c.flow 2 0 ≡ 0 = omega (arith, q.feasible.flows 2 0 (omega arith) (omega arith)) in
    let h : c.flow 2 1 ≡ 0 = omega (arith, q.feasible.flows 2 1 (omega arith) (omega arith)) in
    let i : c.flow 2 2 ≡ 0 = omega (arith, q.feasible.flows 2 2 (omega arith) (omega arith)) in
    let j : c.flow 0 1 ≡ 5 = omega (arith, q.feasible.balance 0 (omega arith)) in
    let k : c.flow 1 2 ≡ 2 = omega (arith, q.feasible.balance 2 (omega arith)) in
    rw (a, b, d, f, g, h, i, j, k) refl

seven_flows : (c : Clearing) → Permitted book_seven c → listed 4 (λ k. c.flow (k / 2) (k % 2)) ≡ 0 ∷ 0 ∷ 0 ∷ 0 ∷ []
unfolding book_seven listed sold bought inflow outflow sum_to
seven_flows c q =
    let a : c.flow 0 0 ≡ 0 = omega (arith, q.feasible.flows 0 0 (omega arith) (omega arith)) in
    let b : c.flow 1 1 ≡ 0 = omega (arith, q.feasible.flows 1 1 (omega arith) (omega arith)) in
    let d : c.flow 0 1 ≡ c.flow 1 0 = omega (arith, q.feasible.balance 0 (omega arith)) in
    let f : c.flow 0 1 ≡ 0 = zero_or (c.flow 0 1) (λ l. d ∙ q.one_way 0 1 (omega arith) (omega arith) l) in
    rw (a, b, f, sym d ∙ f) refl

edges_hold : Edges
unfolding book_of bids_of seal_refusal bids_refusal capacities_refusal row_refusal first_from
edges_hold = record {
  price_passes = refl;
  price_is_5 = refl;
  quantity_passes = refl;
  quantity_is_6 = refl;
  hundredths_pass = refl;
  hundredths_are_5 = refl;
  negative_hundredths_are_5 = refl;
  above_is_5 = refl;
  before_6 = refl;
  after_4 = refl;
  bids_pass = refl;
  bids_are_1 = refl;
}

pub proved_examples : ProvedExamples
unfolding book_one book_two book_three book_four book_five book_six book_seven book_of_two_offers listed seal_refusal bids_refusal capacities_refusal row_refusal first_from member subset_sum demand cut size_before size_with rank used_amount accepted_amount before sum_to all_to min_to placement slack reached supplied least_price welfare sum_z order_bytes number_bytes groups
proved_examples = record {
  one = cleared book_one _ _ _ _ refl refl (λ c q e. no_line c (q.feasible.flows 0 0 (omega arith) (omega arith))) refl refl;
  two = cleared book_two _ _ _ _ refl refl (λ c q e. two_flows c q (e 0 (omega arith))) refl refl;
  three = cleared book_three _ _ _ _ refl refl (λ c q e. no_line c (q.feasible.flows 0 0 (omega arith) (omega arith))) refl refl;
  four = cleared book_four _ _ _ _ refl refl (λ c q e. no_line c (q.feasible.flows 0 0 (omega arith) (omega arith))) refl refl;
  five = cleared book_five _ _ _ _ refl refl (λ c q e. no_line c (q.feasible.flows 0 0 (omega arith) (omega arith))) refl refl;
  six = cleared book_six _ _ _ _ refl refl (λ c q e. six_flows c q (e 0 (omega arith)) (e 2 (omega arith))) refl refl;
  seven = cleared book_seven _ _ _ _ refl refl (λ c q e. seven_flows c q) refl refl;
  two_offers = cleared book_of_two_offers _ _ _ _ refl refl (λ c q e. no_line c (q.feasible.flows 0 0 (omega arith) (omega arith))) refl refl;
  minus_three = refl;
  eight = refl;
  nine = refl;
  ten = refl;
  edges = edges_hold;
}
