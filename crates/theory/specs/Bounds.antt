-- Ranks as a least over masks, one step of the slacks with no difference cut off at 0, and how large a cost can be.
use Rattle.std.specs.Prelude.{◌≡◌, refl, Bool, true, false, not, ◌&&◌, ◌||◌, ℕ, suc, ◌+◌, ◌*◌, ◌≤◌, ◌<◌, ◌^◌, eqb}
use Rattle.std.proofs.Common.{ap, ◌∙◌, true≢false, mul-le-mul_right, arith, eqb-true}
use Rattle.definitions.specs.Arithmetic.{on, sum_to}
use Rattle.laws.specs.Extremes.{min_to}
use Rattle.laws.specs.Tests.{on_le}
use Rattle.laws.specs.Sum.{sum_ext, sum_le, sum_add, sum_one, sum_bound}
use Rattle.theory.specs.Subsets.{member, least}
use Rattle.theory.specs.Network.{goes_out, comes_in, Network, demand, leaving, cut, ◌adding◌}
use Rattle.theory.specs.Rank.{rank, cost, outside}
use Rattle.theory.specs.Slacks.{line_flow, rest, slack, step_one, rest_leaves, flow_enters}
use Rattle.theory.specs.Flows.{WithinCuts, slack_balance}

-- the rank is a least over the masks
pub rank_masks : (N : Network) (B : ℕ → Bool) → rank N B ≡ min_to (cost N B (member 0)) (2 ^ N.pools) (λ s. cost N B (member s))
unfolding rank least
rank_masks N B = refl

-- the slacks
pub slack_next : (N : Network) (x : ℕ → ℕ) → WithinCuts N x → (k : ℕ) → k < N.lines → (S : ℕ → Bool)
    → slack N x (suc k) S + on (goes_out N S k) (rest N x k) + on (comes_in N S k) (line_flow N x k) ≡ slack N x k S
unfolding slack rest line_flow
slack_next N x given k l S =
    step_one (S (N.source k)) (S (N.target k)) (slack N x k S) (rest N x k) (line_flow N x k)
    (rest_leaves N given.ok x k (slack_balance N x given k (omega arith)) l S) (flow_enters N given.ok x k (slack_balance N x given k (omega arith)) l S)

cost_one : (s t x : Bool) (v : ℕ) → on (s && t) v + on (x && not s) v ≤ v
cost_one true t true v = omega (arith, on_le t v)
cost_one true t false v = omega (arith, on_le t v)
cost_one false t x v = omega (arith, on_le (x && true) v)

cost_bound : (N : Network) (B S : ℕ → Bool) → cost N B S ≤ sum_to N.bids N.size + sum_to N.lines N.capacity
unfolding cost outside cut demand leaving
cost_bound N B S =
    omega (
      arith,
      sum_le N.bids _ N.size (λ i l. cost_one (S (N.pool i)) (N.purchase i) (B i) (N.size i)),
      sum_add N.bids (λ i. on (S (N.pool i) && N.purchase i) (N.size i)) (λ i. on (B i && not (S (N.pool i))) (N.size i)),
      sum_le N.lines _ N.capacity (λ j l. on_le (goes_out N S j) (N.capacity j)),
    )

-- one bid more in a set adds its size to the cost of the masks that lack its pool
with_one : (x e : Bool) (s : Bool) (v : ℕ) → (e ≡ true → x ≡ false) → on ((x || e) && not s) v ≡ on (x && not s) v + on e (on (not s) v)
with_one true true s v h = absurd (true≢false (h refl))
with_one true false s v h = omega arith
with_one false true s v h = omega arith
with_one false false s v h = omega arith

pub cost_with : (N : Network) (B S : ℕ → Bool) (i : ℕ) → i < N.bids → B i ≡ false → cost N (B adding i) S ≡ cost N B S + on (not (S (N.pool i))) (N.size i)
unfolding cost outside
cost_with N B S i l h =
    omega (
      arith,
      sum_ext N.bids (λ j. on ((B j || eqb j i) && not (S (N.pool j))) (N.size j))
          (λ j. on (B j && not (S (N.pool j))) (N.size j) + on (eqb j i) (on (not (S (N.pool j))) (N.size j)))
          (λ j r. with_one (B j) (eqb j i) (S (N.pool j)) (N.size j) (λ e. ap B (eqb-true j i e) ∙ h)),
      sum_add N.bids (λ j. on (B j && not (S (N.pool j))) (N.size j)) (λ j. on (eqb j i) (on (not (S (N.pool j))) (N.size j))),
      sum_one N.bids i (λ j. on (not (S (N.pool j))) (N.size j)) l,
    )

-- every cost stays under a number
pub cost_small : (N : Network) (n l u c : ℕ) → N.bids ≤ n → N.lines ≤ l → ((i : ℕ) → i < N.bids → N.size i ≤ u) → ((j : ℕ) → j < N.lines → N.capacity j ≤ c)
    → (B S : ℕ → Bool) → cost N B S ≤ n * u + l * c
cost_small N n l u c hn hl hu hc B S =
    omega (arith, cost_bound N B S, sum_bound N.bids u N.size hu, sum_bound N.lines c N.capacity hc, mul-le-mul_right u hn, mul-le-mul_right c hl)
