-- The rank of a set of bids, the most of it that can be used: a least over the sets of pools. It is submodular, so gains diminish.
use Rattle.std.specs.Prelude.{◌≡◌, refl, Bool, true, false, not, ◌&&◌, ◌||◌, ℕ, ◌+◌, ◌≤◌, ◌<◌, eqb}
use Rattle.std.proofs.Common.{sym, ap, ap₂, ◌∙◌, le_antisymm, arith}
use Rattle.std.proofs.Math.Bool.{or_comm}
use Rattle.definitions.specs.Arithmetic.{on, sum_to}
use Rattle.laws.specs.Sum.{sum_ext, sum_le, sum_add, sum_zero, sum_one}
use Rattle.laws.specs.Tests.{Eq?, same, diff, eq?, on_le}
use Rattle.theory.specs.Subsets.{LooksBelow, member, least, least_at, least_le}
use Rattle.theory.specs.Network.{Network, SoundNetwork, demand, leaving, cut, amount_in, cut_ext, cut_submodular, ◌∪◌, ◌∩◌, ◌adding◌}

-- the sum of v over the bids in B
unfoldable pub bid_sum : Network → (ℕ → ℕ) → (ℕ → Bool) → ℕ
bid_sum N v B = sum_to N.bids (λ i. on (B i) (v i))

-- the sizes of the bids in B whose pool is not in S
unfoldable pub outside : Network → (ℕ → Bool) → (ℕ → Bool) → ℕ
outside N B S = sum_to N.bids (λ i. on (B i && not (S (N.pool i))) (N.size i))

-- what a set S of pools allows the bids in B to use: its cut, and their sizes outside S
unfoldable pub cost : Network → (ℕ → Bool) → (ℕ → Bool) → ℕ
cost N B S = cut N S + outside N B S

-- the most that the bids in B can use: the least that a set allows
unfoldable pub rank : Network → (ℕ → Bool) → ℕ
rank N B = least N.pools (cost N B)

cost_ext : (N : Network) (B : ℕ → Bool) → SoundNetwork N → LooksBelow N.pools (cost N B)
unfolding cost outside
cost_ext N B k P Q e =
    ap₂ ◌+◌ (cut_ext N k P Q e) (sum_ext _ _ _ (λ i l. ap (λ (z : Bool). on (B i && not z) (N.size i)) (e (N.pool i) (k.pool_below i l))))

-- the two laws of the rank
rank_at : (N : Network) (B : ℕ → Bool) → (s : ℕ) × (rank N B ≡ cost N B (member s))
unfolding rank
rank_at N B = let a = least_at N.pools (cost N B) in (a.0, a.2)

pub rank_le : (N : Network) → SoundNetwork N → (B S : ℕ → Bool) → rank N B ≤ cost N B S
unfolding rank
rank_le N k B S = least_le N.pools (cost N B) (cost_ext N B k) S

rank_cost : (N : Network) → SoundNetwork N → (A B : ℕ → Bool) (d : ℕ) → ((S : ℕ → Bool) → cost N A S ≤ cost N B S + d) → rank N A ≤ rank N B + d
rank_cost N k A B d h = let a = rank_at N B in omega (arith, a.1, rank_le N k A (member a.0), h (member a.0))

-- of smaller sets, and of one more bid
on_le_if : (x y : Bool) (v : ℕ) → (x ≡ true → y ≡ true) → (s : Bool) → on (x && s) v ≤ on (y && s) v
on_le_if true y v h s = rw (h refl) (omega arith)
on_le_if false y v h s = omega arith

pub rank_monotone : (N : Network) → SoundNetwork N → (A B : ℕ → Bool) → ((i : ℕ) → i < N.bids → A i ≡ true → B i ≡ true) → rank N A ≤ rank N B
unfolding cost outside
rank_monotone N k A B h =
    let r = rank_cost N k A B 0 (λ S. omega (arith, sum_le N.bids _ _ (λ i l. on_le_if (A i) (B i) (N.size i) (h i l) (not (S (N.pool i)))))) in
    omega arith

pub rank_ext : (N : Network) → SoundNetwork N → (A B : ℕ → Bool) → ((i : ℕ) → i < N.bids → A i ≡ B i) → rank N A ≡ rank N B
rank_ext N k A B h =
    le_antisymm (rank_monotone N k A B (λ i l e. sym (h i l) ∙ e)) (rank_monotone N k B A (λ i l e. h i l ∙ e))

more_one : (x t s : Bool) (v : ℕ) → on ((x || t) && s) v ≤ on (x && s) v + on t v
more_one true t s v = omega arith
more_one false true s v = omega (arith, on_le s v)
more_one false false s v = omega arith

pub rank_one_more : (N : Network) → SoundNetwork N → (B : ℕ → Bool) (i : ℕ) → i < N.bids → rank N (B adding i) ≤ rank N B + N.size i
unfolding cost outside
rank_one_more N k B i l =
    rank_cost N k (B adding i) B (N.size i) (λ S.
    omega (
      arith,
      sum_le N.bids _ _ (λ j r. more_one (B j) (eqb j i) (not (S (N.pool j))) (N.size j)),
      sum_add N.bids (λ j. on (B j && not (S (N.pool j))) (N.size j)) (λ j. on (eqb j i) (N.size j)),
      sum_one N.bids i N.size l,
    ))

-- no set, and all
pub rank_none : (N : Network) → SoundNetwork N → rank N (λ i. false) ≡ 0
unfolding cost outside cut demand leaving
rank_none N k =
    let a = rank_le N k (λ i. false) (λ p. false) in
    omega (arith, a, sum_zero N.bids, sum_zero N.lines)

demand_split : (s t : Bool) (v : ℕ) → on (true && t) v ≤ on (s && t) v + on (true && not s) v
demand_split true t v = omega arith
demand_split false t v = omega (arith, on_le t v)

pub rank_all : (N : Network) → SoundNetwork N → rank N (λ i. true) ≡ demand N (λ p. true)
unfolding cost outside cut demand leaving
rank_all N k =
    let a = rank_le N k (λ i. true) (λ p. true) in
    let c = rank_at N (λ i. true) in
    let w = sum_le N.bids (λ i. on (true && N.purchase i) (N.size i))
    (λ i. on (member c.0 (N.pool i) && N.purchase i) (N.size i) + on (true && not (member c.0 (N.pool i))) (N.size i))
    (λ i l. demand_split (member c.0 (N.pool i)) (N.purchase i) (N.size i)) in
    let v = sum_add N.bids (λ i. on (member c.0 (N.pool i) && N.purchase i) (N.size i)) (λ i. on (true && not (member c.0 (N.pool i))) (N.size i)) in
    le_antisymm (omega (arith, a, sum_zero N.bids, sum_zero N.lines)) (omega (arith, c.1, w, v))

-- no feasible use of B exceeds its rank
bound_one : (x s : Bool) (v u : ℕ) → v ≤ u → on x v ≤ on s v + on (x && not s) u
bound_one true true v u h = omega arith
bound_one true false v u h = omega arith
bound_one false s v u h = omega arith

pub rank_bound : (N : Network) (y : ℕ → ℕ) → ((i : ℕ) → i < N.bids → y i ≤ N.size i) → ((s : ℕ) → amount_in N y (member s) ≤ cut N (member s))
    → (B : ℕ → Bool) → bid_sum N y B ≤ rank N B
unfolding cost outside amount_in bid_sum
rank_bound N y h c B =
    let a = rank_at N B in
    let S = member a.0 in
    omega (
      arith,
      a.1,
      c a.0,
      sum_le N.bids _ _ (λ i l. bound_one (B i) (S (N.pool i)) (y i) (N.size i) (h i l)),
      sum_add N.bids (λ i. on (S (N.pool i)) (y i)) (λ i. on (B i && not (S (N.pool i))) (N.size i)),
    )

-- submodular
submodular_one : (x y s r : Bool) (v : ℕ) → on ((x || y) && not (s || r)) v + on ((x && y) && not (s && r)) v ≤ on (x && not s) v + on (y && not r) v
submodular_one true true true r v = omega arith
submodular_one true true false r v = omega arith
submodular_one true false true r v = omega arith
submodular_one true false false r v = omega (arith, on_le (not r) v)
submodular_one false true true r v = omega arith
submodular_one false true false r v = omega arith
submodular_one false false s r v = omega arith

outside_submodular : (N : Network) (A B S R : ℕ → Bool) → outside N (A ∪ B) (S ∪ R) + outside N (A ∩ B) (S ∩ R) ≤ outside N A S + outside N B R
unfolding outside
outside_submodular N A B S R =
    omega (
      arith,
      sum_le N.bids _ _ (λ i l. submodular_one (A i) (B i) (S (N.pool i)) (R (N.pool i)) (N.size i)),
      sum_add N.bids (λ i. on ((A ∪ B) i && not ((S ∪ R) (N.pool i))) (N.size i)) (λ i. on ((A ∩ B) i && not ((S ∩ R) (N.pool i))) (N.size i)),
      sum_add N.bids (λ i. on (A i && not (S (N.pool i))) (N.size i)) (λ i. on (B i && not (R (N.pool i))) (N.size i)),
    )

pub rank_submodular : (N : Network) → SoundNetwork N → (A B : ℕ → Bool) → rank N (A ∪ B) + rank N (A ∩ B) ≤ rank N A + rank N B
unfolding cost
rank_submodular N k A B =
    let s = rank_at N A in
    let r = rank_at N B in
    let S = member s.0 in
    let R = member r.0 in
    omega (arith, s.1, r.1, rank_le N k (A ∪ B) (S ∪ R), rank_le N k (A ∩ B) (S ∩ R), cut_submodular N S R, outside_submodular N A B S R)

-- gains diminish
diminish_or : (x y t : Bool) → (x ≡ true → y ≡ true) → ((x || t) || y) ≡ (y || t)
diminish_or true y t h = sym (ap (λ (z : Bool). z || t) (h refl))
diminish_or false y t h = or_comm t y

diminish_and : (x y : Bool) (j i : ℕ) {t : Bool} → Eq? j i t → (x ≡ true → y ≡ true) → (j ≡ i → y ≡ false) → ((x || t) && y) ≡ x
diminish_and true y j i e h q = h refl
diminish_and false y j i (same p) h q = q p
diminish_and false y j i (diff p) h q = refl

pub gains_diminish : (N : Network) → SoundNetwork N → (A B : ℕ → Bool) (i : ℕ) → ((j : ℕ) → j < N.bids → A j ≡ true → B j ≡ true) → B i ≡ false
    → rank N (B adding i) + rank N A ≤ rank N (A adding i) + rank N B
gains_diminish N k A B i h q =
    omega (
      arith,
      rank_submodular N k (A adding i) B,
      rank_ext N k ((A adding i) ∪ B) (B adding i) (λ j l. diminish_or (A j) (B j) (eqb j i) (h j l)),
      rank_ext N k ((A adding i) ∩ B) A (λ j l. diminish_and (A j) (B j) j i (eq? j i) (h j l) (λ e. ap B e ∙ q)),
    )
