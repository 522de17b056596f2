-- Bidding dearer: of two accepted books that are equal but for one bid's price, the one with the higher price accepts no more of it if it is a sale, and no less if it is a purchase.
use Rattle.std.specs.Prelude.{◌≡◌, refl, Bool, true, false, ◌&&◌, ◌≢◌, List, ℕ, ◌-◌, ◌≤◌, ◌<◌, ◌^◌, ℤ, pos, nat_abs, ◌≤ℤ◌, not, cond}
use Rattle.std.proofs.Common.{sym, ◌∙◌, true≢false, ap, ap₂, arith}
use Rattle.std.specs.Int.Signed.{lt_z}
use Rattle.definitions.specs.Limits.{price_limit}
use Rattle.definitions.specs.Arithmetic.{on}
use Rattle.definitions.specs.Book.{Book, book, pool, price, quantity, purchase, sale, size}
use Rattle.definitions.specs.Clearing.{Clearing, Best, before, used}
use Rattle.definitions.specs.Calls.{AcceptedBook}
use Rattle.laws.specs.Sum.{sum_ext}
use Rattle.laws.specs.Extremes.{min_to, min_ext}
use Rattle.laws.specs.AcceptedBook.{Sound, accepted_sound, pool_index, raised_price}
use Rattle.theory.specs.Integers.{raised_le}
use Rattle.theory.specs.Subsets.{member, least}
use Rattle.theory.specs.Network.{Network, SoundNetwork, demand, leaving, cut, ◌adding◌}
use Rattle.theory.specs.Rank.{rank, cost, outside, gains_diminish}
use Rattle.theory.specs.Greatest.{ahead, best_used}
use Rattle.theory.specs.MeritOrder.{merit_raise}
use Rattle.theory.specs.Hundredths.{price_raised}
use Rattle.theory.specs.BookNetwork.{network_of, network_sound, before_is, before_strict_total}
use Rattle.theory.specs.CutClearing.{cut_used, best_used_lem}

-- ---- the rank looks only at the sizes, pools and sides of the network's bids

abbrev with_bids : Network → (size pool : ℕ → ℕ) (purchase : ℕ → Bool) → Network
with_bids N size pool purchase = record {
  bids = N.bids;
  pools = N.pools;
  lines = N.lines;
  size = size;
  pool = pool;
  purchase = purchase;
  source = N.source;
  target = N.target;
  capacity = N.capacity;
}

module _ (N : Network) (size pool : ℕ → ℕ) (purchase : ℕ → Bool)
    (sizes : (i : ℕ) → i < N.bids → size i ≡ N.size i) (pools : (i : ℕ) → i < N.bids → pool i ≡ N.pool i) (sides : (i : ℕ) → i < N.bids → purchase i ≡ N.purchase i) where
  cost_same : (A S : ℕ → Bool) → cost (with_bids N size pool purchase) A S ≡ cost N A S
  unfolding cost cut demand leaving outside
  cost_same A S =
      omega (
        arith,
        sum_ext N.bids (λ i. on (S (pool i) && purchase i) (size i)) (λ i. on (S (N.pool i) && N.purchase i) (N.size i)) (λ i l. rw (sizes i l, pools i l, sides i l) refl),
        sum_ext N.bids (λ i. on (A i && not (S (pool i))) (size i)) (λ i. on (A i && not (S (N.pool i))) (N.size i)) (λ i l. rw (sizes i l, pools i l) refl),
      )

  rank_same : (A : ℕ → Bool) → rank (with_bids N size pool purchase) A ≡ rank N A
  unfolding rank least
  rank_same A =
      min_ext _ (2 ^ N.pools) _ _ (λ s l. cost_same A (member s))
      ∙ ap (λ (z : ℕ). min_to z (2 ^ N.pools) (λ s. cost N A (member s))) (cost_same A (member 0))

  -- a bid that comes later is used no more
  later_no_more : SoundNetwork N → (before before' : ℕ → ℕ → Bool) (i : ℕ) → before' i i ≡ false
      → ((j : ℕ) → j < N.bids → before j i ≡ true → before' j i ≡ true) → best_used (with_bids N size pool purchase) before' i ≤ best_used N before i
  unfolding best_used
  later_no_more ok before before' i q h = omega (arith, rank_same (ahead before' i adding i), rank_same (ahead before' i), gains_diminish N ok (ahead before i) (ahead before' i) i h q)

-- ---- of books

-- the book with another bid table
abbrev pub rebid : Book → List ℤ → Book
rebid B bids = book B.n B.m bids B.capacities

-- bid i is dearer in the second, and all else is equal
pub record Dearer (B D : Book) (i : ℕ) : Type 0 where
  pub pools : (j : ℕ) → j < B.n → pool D j ≡ pool B j
  pub quantities : (j : ℕ) → j < B.n → quantity D j ≡ quantity B j
  pub other_prices : (j : ℕ) → j < B.n → j ≢ i → price D j ≡ price B j
  pub higher : price B i ≤ℤ price D i

module _ (B : Book) (bids : List ℤ) (i : ℕ) (l : i < B.n) (ok : Sound B) (ok' : Sound (rebid B bids)) (d : Dearer B (rebid B bids) i) where
  sides : (j : ℕ) → j < B.n → purchase (rebid B bids) j ≡ purchase B j
  sides j r = ap (λ (z : ℤ). lt_z (pos 0) z) (d.quantities j r)

  sizes : (j : ℕ) → j < B.n → size (rebid B bids) j ≡ size B j
  sizes j r = ap nat_abs (d.quantities j r)

  before_kept : (j : ℕ) → j < B.n → before B j i ≡ true → before (rebid B bids) j i ≡ true
  before_kept j r e =
      before_is (rebid B bids) ok' j i r l
      ∙ merit_raise (λ j. raised_price B j) (λ j. raised_price (rebid B bids) j) (λ j. purchase B j) (λ j. purchase (rebid B bids) j) j i
      (raised_le price_limit (price B i) (price (rebid B bids) i) (raised_price B i) (raised_price (rebid B bids) i) (price_raised B ok i l) (price_raised (rebid B bids) ok' i l) d.higher)
      (omega (arith, price_raised B ok j r, rw (d.other_prices j r other) at (price_raised (rebid B bids) ok' j r)))
      (sides j r) (sides i l) (sym (before_is B ok j i r l) ∙ e)
    where
      other : j ≢ i
      other q = true≢false (sym e ∙ ap (λ (z : ℕ). before B z i) q ∙ (before_strict_total B ok).irreflexive i l)

  used_no_more : cut_used (rebid B bids) i ≤ cut_used B i
  used_no_more =
      later_no_more (network_of B) (λ j. size (rebid B bids) j) (λ j. pool_index (rebid B bids) j) (λ j. purchase (rebid B bids) j)
      sizes (λ j r. ap (λ (z : ℤ). nat_abs z - 1) (d.pools j r)) sides
      (network_sound B ok) (before B) (before (rebid B bids)) i ((before_strict_total (rebid B bids) ok').irreflexive i l) before_kept

  used_rebid : (a : ℕ → ℕ) → used (rebid B bids) a i ≡ used B a i
  unfolding used
  used_rebid a = ap₂ (λ (t : Bool) (u : ℕ). cond (not t) (a i) (u - a i)) (sides i l) (sizes i l)

sides_say : (t : Bool) (a c u : ℕ) → a ≤ u → c ≤ u → cond (not t) c (u - c) ≤ cond (not t) a (u - a) → (not t ≡ true → c ≤ a) × (t ≡ true → a ≤ c)
sides_say true a c u h k e = (λ q. absurd (true≢false (sym q)), λ q. omega arith)
sides_say false a c u h k e = (λ q. e, λ q. absurd (true≢false (sym q)))

-- a dearer sale is accepted no more, a dearer purchase no less
pub dearer : (B : Book) (bids : List ℤ) (i : ℕ) → i < B.n → AcceptedBook B → AcceptedBook (rebid B bids) → Dearer B (rebid B bids) i
    → (c e : Clearing) → Best B c → Best (rebid B bids) e → (sale B i ≡ true → e.accepted i ≤ c.accepted i) × (purchase B i ≡ true → c.accepted i ≤ e.accepted i)
unfolding used
dearer B bids i l h k d c e b f =
    let ok = accepted_sound B h in
    let ok' = accepted_sound (rebid B bids) k in
    let less : used B e.accepted i ≤ used B c.accepted i
    = omega (
      arith,
      used_no_more B bids i l ok ok' d,
      used_rebid B bids i l ok ok' d e.accepted,
      best_used_lem B ok c b i l,
      best_used_lem (rebid B bids) ok' e f i l,
    ) in
    let said = sides_say (purchase B i) (c.accepted i) (e.accepted i) (size B i) (b.feasible.amounts i l) (omega (arith, f.feasible.amounts i l, sizes B bids i l ok ok' d i l)) less in
    (λ q. omega (arith, said.0 q), λ q. omega (arith, said.1 q))
