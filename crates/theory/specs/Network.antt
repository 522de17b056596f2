-- A network: bids in pools, and lines between pools. What a set of pools can take, its cut, is submodular.
use Rattle.std.specs.Prelude.{◌≡◌, refl, Bool, true, false, not, ◌&&◌, ◌||◌, ℕ, ◌+◌, ◌≤◌, ◌<◌, eqb}
use Rattle.std.proofs.Common.{sym, ap, ap₂, ◌∙◌, arith}
use Rattle.definitions.specs.Arithmetic.{on, sum_to}
use Rattle.laws.specs.Sum.{sum_ext, sum_le, sum_add, sum_add4, sum_zero, sum_le_at}
use Rattle.theory.specs.Subsets.{LooksBelow}
use Rattle.theory.specs.Choices.{on_zero}

-- bids with their sizes, pools and sides, and lines between pools with their capacities
pub record Network : Type 0 where
  pub bids : ℕ
  pub pools : ℕ
  pub lines : ℕ
  pub size : ℕ → ℕ
  pub pool : ℕ → ℕ
  pub purchase : ℕ → Bool
  pub source : ℕ → ℕ
  pub target : ℕ → ℕ
  pub capacity : ℕ → ℕ

-- each bid and each end of a line is in one of the pools
pub record SoundNetwork (N : Network) : Type 0 where
  pub pool_below : (i : ℕ) → i < N.bids → N.pool i < N.pools
  pub source_below : (j : ℕ) → j < N.lines → N.source j < N.pools
  pub target_below : (j : ℕ) → j < N.lines → N.target j < N.pools

-- the sum of v over the bids in the pools S
unfoldable pub amount_in : Network → (ℕ → ℕ) → (ℕ → Bool) → ℕ
amount_in N v S = sum_to N.bids (λ i. on (S (N.pool i)) (v i))

-- the sizes of the purchases in the pools S
unfoldable pub demand : Network → (ℕ → Bool) → ℕ
demand N S = sum_to N.bids (λ i. on (S (N.pool i) && N.purchase i) (N.size i))

-- line j leaves S
abbrev pub goes_out : Network → (ℕ → Bool) → ℕ → Bool
goes_out N S j = S (N.source j) && not (S (N.target j))

-- line j enters S
abbrev pub comes_in : Network → (ℕ → Bool) → ℕ → Bool
comes_in N S j = not (S (N.source j)) && S (N.target j)

-- the sum of c over the lines that leave S
unfoldable pub leaving : Network → (ℕ → ℕ) → (ℕ → Bool) → ℕ
leaving N c S = sum_to N.lines (λ j. on (goes_out N S j) (c j))

-- the sum of c over the lines that enter S
unfoldable pub entering : Network → (ℕ → ℕ) → (ℕ → Bool) → ℕ
entering N c S = sum_to N.lines (λ j. on (comes_in N S j) (c j))

-- the cut of S: its demand, and all that can leave it
unfoldable pub cut : Network → (ℕ → Bool) → ℕ
cut N S = demand N S + leaving N N.capacity S

-- the pools in one of two sets, and in both
infixl 40 ◌∪◌
infixl 45 ◌∩◌
abbrev pub ◌∪◌ : (ℕ → Bool) → (ℕ → Bool) → ℕ → Bool
◌∪◌ S R = λ p. S p || R p

abbrev pub ◌∩◌ : (ℕ → Bool) → (ℕ → Bool) → ℕ → Bool
◌∩◌ S R = λ p. S p && R p

-- the set S and the number i
infixl 50 ◌adding◌
abbrev pub ◌adding◌ : (ℕ → Bool) → ℕ → ℕ → Bool
◌adding◌ S i = λ j. S j || eqb j i

-- each looks only at the network's own pools
pub demand_ext : (N : Network) → SoundNetwork N → LooksBelow N.pools (demand N)
unfolding demand
demand_ext N k P Q e = sum_ext _ _ _ (λ i l. ap (λ (z : Bool). on (z && N.purchase i) (N.size i)) (e (N.pool i) (k.pool_below i l)))

pub leaving_ext : (N : Network) (c : ℕ → ℕ) → SoundNetwork N → LooksBelow N.pools (leaving N c)
unfolding leaving
leaving_ext N c k P Q e = sum_ext _ _ _ (λ j l. ap₂ (λ (y z : Bool). on (y && not z) (c j)) (e (N.source j) (k.source_below j l)) (e (N.target j) (k.target_below j l)))

pub cut_ext : (N : Network) → SoundNetwork N → LooksBelow N.pools (cut N)
unfolding cut
cut_ext N k P Q e = ap₂ ◌+◌ (demand_ext N k P Q e) (leaving_ext N N.capacity k P Q e)

-- the demand is modular
demand_one : (s r t : Bool) (v : ℕ) → on ((s || r) && t) v + on ((s && r) && t) v ≡ on (s && t) v + on (r && t) v
demand_one true true t v = refl
demand_one true false t v = refl
demand_one false true t v = omega arith
demand_one false false t v = refl

pub demand_modular : (N : Network) (S R : ℕ → Bool) → demand N (S ∪ R) + demand N (S ∩ R) ≡ demand N S + demand N R
unfolding demand
demand_modular N S R =
    sym (sum_add N.bids _ _)
    ∙ sum_ext _ _ _ (λ i l. demand_one (S (N.pool i)) (R (N.pool i)) (N.purchase i) (N.size i))
    ∙ sum_add N.bids _ _

-- the cuts are submodular, also where each line has a least flow lo
lines_one : (s s' r r' : Bool) (low high : ℕ) → low ≤ high
    → on ((s || r) && not (s' || r')) high + on ((s && r) && not (s' && r')) high + on (not s && s') low + on (not r && r') low
    ≤ on (s && not s') high + on (r && not r') high + on (not (s || r) && (s' || r')) low + on (not (s && r) && (s' && r')) low
lines_one true true true r' low high h = omega arith
lines_one true false true r' low high h = omega arith
lines_one true true false r' low high h = omega arith
lines_one true false false true low high h = omega arith
lines_one true false false false low high h = omega arith
lines_one false true true true low high h = omega arith
lines_one false true true false low high h = omega arith
lines_one false false true r' low high h = omega arith
lines_one false true false r' low high h = omega arith
lines_one false false false r' low high h = omega arith

module _ (N : Network) (low high : ℕ → ℕ) (S R : ℕ → Bool) where
  lower : ℕ → ℕ
  lower j = on (goes_out N (S ∪ R) j) (high j) + on (goes_out N (S ∩ R) j) (high j)
      + on (comes_in N S j) (low j) + on (comes_in N R j) (low j)

  upper : ℕ → ℕ
  upper j = on (goes_out N S j) (high j) + on (goes_out N R j) (high j)
      + on (comes_in N (S ∪ R) j) (low j) + on (comes_in N (S ∩ R) j) (low j)

  lower_sum : sum_to N.lines lower ≡ leaving N high (S ∪ R) + leaving N high (S ∩ R) + entering N low S + entering N low R
  unfolding lower leaving entering
  lower_sum = sum_add4 N.lines _ _ _ _

  upper_sum : sum_to N.lines upper ≡ leaving N high S + leaving N high R + entering N low (S ∪ R) + entering N low (S ∩ R)
  unfolding upper leaving entering
  upper_sum = sum_add4 N.lines _ _ _ _

  lower_le : ((j : ℕ) → j < N.lines → low j ≤ high j) → (j : ℕ) → j < N.lines → lower j ≤ upper j
  unfolding lower upper
  lower_le h j l = lines_one (S (N.source j)) (S (N.target j)) (R (N.source j)) (R (N.target j)) (low j) (high j) (h j l)

  lines_submodular : ((j : ℕ) → j < N.lines → low j ≤ high j)
      → leaving N high (S ∪ R) + leaving N high (S ∩ R) + entering N low S + entering N low R ≤ leaving N high S + leaving N high R + entering N low (S ∪ R) + entering N low (S ∩ R)
  lines_submodular h = omega (arith, lower_sum, upper_sum, sum_le N.lines lower upper (lower_le h))

  -- a line from S to R counts for all that it is free to carry
  lower_at : (k d : ℕ) → low k + d ≤ high k → S (N.source k) ≡ true → S (N.target k) ≡ false → R (N.source k) ≡ false → R (N.target k) ≡ true → lower k + d ≤ upper k
  unfolding lower upper
  lower_at k d q e1 e2 e3 e4 = rw (e1, e2, e3, e4) (omega arith)

  pub lines_submodular_at : (k d : ℕ) → k < N.lines → low k + d ≤ high k → S (N.source k) ≡ true → S (N.target k) ≡ false → R (N.source k) ≡ false → R (N.target k) ≡ true
      → ((j : ℕ) → j < N.lines → low j ≤ high j)
      → leaving N high (S ∪ R) + leaving N high (S ∩ R) + entering N low S + entering N low R + d ≤ leaving N high S + leaving N high R + entering N low (S ∪ R) + entering N low (S ∩ R)
  lines_submodular_at k d l q e1 e2 e3 e4 h =
      omega (arith, lower_sum, upper_sum, sum_le_at N.lines lower upper d k l (lower_at k d q e1 e2 e3 e4) (lower_le h))

entering_zero : (N : Network) (S : ℕ → Bool) → entering N (λ j. 0) S ≡ 0
unfolding entering
entering_zero N S = sum_ext N.lines _ (λ j. 0) (λ j l. on_zero (comes_in N S j)) ∙ sum_zero N.lines

leaving_submodular : (N : Network) (c : ℕ → ℕ) (S R : ℕ → Bool) → leaving N c (S ∪ R) + leaving N c (S ∩ R) ≤ leaving N c S + leaving N c R
leaving_submodular N c S R =
    omega (arith, lines_submodular N (λ j. 0) c S R (λ j l. omega arith), entering_zero N S, entering_zero N R, entering_zero N (S ∪ R), entering_zero N (S ∩ R))

pub cut_submodular : (N : Network) (S R : ℕ → Bool) → cut N (S ∪ R) + cut N (S ∩ R) ≤ cut N S + cut N R
unfolding cut
cut_submodular N S R = omega (arith, demand_modular N S R, leaving_submodular N N.capacity S R)
