-- What acceptance says of a book: its counts, its tables' lengths and its numbers as natural numbers (`accepted_sound`); it says no more
-- (`sound_accepted`), and there is an accepted book for every n to the bid limit and every m from 1 to the pool limit (`books_exist`).
use Rattle.std.specs.Prelude.{ℕ, zero, suc, ◌+◌, ◌-◌, ◌*◌, ◌≤◌, ◌<◌, ◌≡◌, refl, Bool, true, false, cond, ◌&&◌, List, [], ◌∷◌, leb, length, get_or, replicate, ℤ, pos, negsuc, neg_ℤ, nat_abs, ◌+ℤ◌, eqb}
use Rattle.std.proofs.Common.{sym, ◌∙◌, subst, true≢false, arith, eq-eqb, eqb-true, ne_eqb, le-ltb, leb-true, le-leb, ap}
use Rattle.std.proofs.Math.Dec.{eqb-suc-suc}
use Rattle.std.proofs.lemmas.List.{length-replicate, get_or-replicate}
use Rattle.std.proofs.Math.ListN.{get_or-eq_default}
use Rattle.std.specs.Int.Signed.{le_z}
use Rattle.definitions.specs.Limits.{bid_limit, pool_limit, whole_limit, hundredths_limit, hundred, price_limit, quantity_limit, capacity_limit, cell_count, bid_numbers, price_place, quantity_place, hundredths_place}
use Rattle.definitions.specs.Arithmetic.{within, eq_z}
use Rattle.definitions.specs.Book.{Book, book, pool, whole_price, hundredths, in_hundredths, price, quantity, size, in_pool, capacity_entry, capacity}
use Rattle.definitions.specs.Answers.{none, first, numbered}
use Rattle.definitions.specs.Calls.{AcceptedBook, seal_refusal, counts_refusal, length_refusal, tables_right, bids_refusal, price_in_range, bid_fault, capacities_refusal, row_refusal, entry_refusal, capacity_fault}
use Rattle.std.specs.Cmp.{first_so, second_so}
use Rattle.std.specs.Cmp.Derive.{both_true}
use Rattle.laws.specs.Tests.{Lt?, less, more, lt?}
use Rattle.laws.specs.SignedTests.{eq_z_true}
use Rattle.laws.specs.Refusal.{first_left, first_right, first_both, all_none, none_all, numbered_zero}
use Rattle.laws.specs.Sizes.{Sizes, accepted_sizes}

-- the pool of bid i, from 0
abbrev pub pool_index : Book → ℕ → ℕ
pool_index B i = nat_abs (pool B i) - 1

-- the whole part of its limit price, raised so that none is negative
abbrev pub raised_whole : Book → ℕ → ℕ
raised_whole B i = nat_abs (whole_price B i +ℤ pos whole_limit)

-- its hundredths
abbrev pub hundredths_part : Book → ℕ → ℕ
hundredths_part B i = nat_abs (hundredths B i)

-- its limit price in hundredths, raised by the limit
abbrev pub raised_price : Book → ℕ → ℕ
raised_price B i = hundred * raised_whole B i + hundredths_part B i

-- the counts, lengths and numbers of book B are within their limits
pub record Sound (B : Book) : Type 0 where
  pub bids : B.n ≤ bid_limit
  pub pools_positive : 0 < B.m
  pub pools : B.m ≤ pool_limit
  pub bid_table : length B.bids ≡ bid_numbers * B.n
  pub capacity_table : length B.capacities ≡ B.m * B.m
  pub pool_is : (i : ℕ) → i < B.n → pool B i ≡ pos (suc (pool_index B i))
  pub pool_index_lem : (i : ℕ) → i < B.n → pool_index B i < B.m
  pub whole_is : (i : ℕ) → i < B.n → whole_price B i +ℤ pos whole_limit ≡ pos (raised_whole B i)
  pub whole_small : (i : ℕ) → i < B.n → raised_whole B i ≤ 2 * whole_limit
  pub whole_size : (i : ℕ) → i < B.n → nat_abs (whole_price B i) ≤ whole_limit
  pub hundredths_is : (i : ℕ) → i < B.n → hundredths B i ≡ pos (hundredths_part B i)
  pub hundredths_small : (i : ℕ) → i < B.n → hundredths_part B i ≤ hundredths_limit
  pub price_small : (i : ℕ) → i < B.n → raised_price B i ≤ 2 * price_limit
  pub price_size : (i : ℕ) → i < B.n → nat_abs (price B i) ≤ price_limit
  pub size_small : (i : ℕ) → i < B.n → size B i ≤ quantity_limit
  pub capacity_is : (a b : ℕ) → a < B.m → b < B.m → capacity_entry B a b ≡ pos (capacity B a b)
  pub capacity_small : (a b : ℕ) → a < B.m → b < B.m → capacity B a b ≤ capacity_limit
  pub diagonal : (a : ℕ) → a < B.m → capacity B a a ≡ 0

-- ---- ranges

-- 1 ≤ z ≤ m
in_pools : (m : ℕ) (z : ℤ) → within (pos 1) (pos m) z ≡ true → (z ≡ pos (suc (nat_abs z - 1))) × (nat_abs z - 1 < m)
in_pools m (pos zero) e = absurd (true≢false (sym e))
in_pools m (pos (suc k)) e = (ap pos (omega arith), omega (arith, leb-true (suc k) m (second_so (le_z (pos 1) (pos (suc k))) _ e)))
in_pools m (negsuc k) e = absurd (true≢false (sym e))

-- -k ≤ z ≤ k
in_size : (k : ℕ) (z : ℤ) → within (neg_ℤ (pos k)) (pos k) z ≡ true → nat_abs z ≤ k
in_size zero (pos a) e = leb-true a 0 (second_so (leb 0 a) _ e)
in_size zero (negsuc a) e = absurd (true≢false (sym e))
in_size (suc k) (pos a) e = leb-true a (suc k) e
in_size (suc k) (negsuc a) e = omega (arith, leb-true a k (first_so (leb a k) _ e))

size_in : (k : ℕ) (z : ℤ) → nat_abs z ≤ k → within (neg_ℤ (pos k)) (pos k) z ≡ true
size_in zero (pos a) h = rw (le-leb 0 a (omega arith), le-leb a 0 h) refl
size_in zero (negsuc a) h = absurd (omega arith)
size_in (suc k) (pos a) h = le-leb a (suc k) h
size_in (suc k) (negsuc a) h = simp (le-leb a k (omega arith))

-- k added to such a z
raised : (k : ℕ) (z : ℤ) → nat_abs z ≤ k → (z +ℤ pos k ≡ pos (nat_abs (z +ℤ pos k))) × (nat_abs (z +ℤ pos k) ≤ 2 * k)
raised k (pos a) h = (refl, omega arith)
raised k (negsuc a) h = go (lt? k (suc a))
  where
    go : {t : Bool} → Lt? k (suc a) t
        → (cond t (negsuc (suc a - suc k)) (pos (k - suc a)) ≡ pos (nat_abs (cond t (negsuc (suc a - suc k)) (pos (k - suc a)))))
        × (nat_abs (cond t (negsuc (suc a - suc k)) (pos (k - suc a))) ≤ 2 * k)
    go (less l) = absurd (omega arith)
    go (more l) = (refl, omega arith)

-- 0 ≤ z ≤ k
pub from_zero : (k : ℕ) (z : ℤ) → within (pos 0) (pos k) z ≡ true → (z ≡ pos (nat_abs z)) × (nat_abs z ≤ k)
from_zero k (pos a) e = (refl, leb-true a k (second_so (le_z (pos 0) (pos a)) _ e))
from_zero k (negsuc a) e = absurd (true≢false (sym e))

pub within_from_zero : (k v : ℕ) (z : ℤ) → z ≡ pos v → v ≤ k → within (pos 0) (pos k) z ≡ true
within_from_zero k v z e h = rw (e, le-leb 0 v (omega arith)) (le-leb v k h)

-- ---- a price in two parts

-- of a negative whole part: the hundredths are added, so they take off its size
pub below_zero : (v k : ℕ) → k ≤ hundredths_limit → in_hundredths (negsuc v) (pos k) ≡ negsuc (hundred * v + (hundredths_limit - k))
below_zero v k l =
    let e : suc v * hundred ≡ suc (hundredths_limit + v * hundred) = omega arith in
    ap (λ (x : ℕ). neg_ℤ (pos x) +ℤ pos k) e ∙ go (lt? k (suc (hundredths_limit + v * hundred)))
  where
    go : {t : Bool} → Lt? k (suc (hundredths_limit + v * hundred)) t
        → cond t (negsuc (suc (hundredths_limit + v * hundred) - suc k)) (pos (k - suc (hundredths_limit + v * hundred)))
        ≡ negsuc (hundred * v + (hundredths_limit - k))
    go (less h) = ap negsuc (omega arith)
    go (more h) = absurd (omega arith)

-- what a price in range is
pub record SoundPrice (whole hundredths : ℤ) : Type 0 where
  whole_sized : nat_abs whole ≤ whole_limit
  pub hundredths_are : hundredths ≡ pos (nat_abs hundredths)
  pub hundredths_sized : nat_abs hundredths ≤ hundredths_limit
  price_sized : nat_abs (in_hundredths whole hundredths) ≤ price_limit
  raised_sized : hundred * nat_abs (whole +ℤ pos whole_limit) + nat_abs hundredths ≤ 2 * price_limit

-- the sizes of a price from those of its parts
sizes_of_price : (y : ℤ) (k : ℕ) → nat_abs y ≤ whole_limit → k ≤ hundredths_limit → le_z (in_hundredths y (pos k)) (pos price_limit) ≡ true
    → (nat_abs (in_hundredths y (pos k)) ≤ price_limit) × (hundred * nat_abs (y +ℤ pos whole_limit) + k ≤ 2 * price_limit)
sizes_of_price (pos a) k p q e = let h : a * hundred + k ≤ price_limit = leb-true _ _ e in (h, omega arith)
sizes_of_price (negsuc v) k p q e = (rw (below_zero v k q) (omega arith), omega (arith, go (lt? whole_limit (suc v))))
  where
    go : {t : Bool} → Lt? whole_limit (suc v) t → nat_abs (cond t (negsuc (suc v - suc whole_limit)) (pos (whole_limit - suc v))) ≡ whole_limit - suc v
    go (less l) = absurd (omega arith)
    go (more l) = refl

pub sound_price : (y h : ℤ) → price_in_range y h ≡ true → SoundPrice y h
sound_price y h e =
    let range = within (neg_ℤ (pos whole_limit)) (pos whole_limit) y in
    let both = second_so range _ e in
    let whole : nat_abs y ≤ whole_limit = in_size whole_limit y (first_so range _ e) in
    let part = from_zero hundredths_limit h (first_so (within (pos 0) (pos hundredths_limit) h) _ both) in
    let upper : le_z (in_hundredths y (pos (nat_abs h))) (pos price_limit) ≡ true =
    ap (λ (z : ℤ). le_z (in_hundredths y z) (pos price_limit)) (sym part.0) ∙ second_so (within (pos 0) (pos hundredths_limit) h) _ both in
    let sizes = sizes_of_price y (nat_abs h) whole part.1 upper in
    record {
      whole_sized = whole;
      hundredths_are = part.0;
      hundredths_sized = part.1;
      price_sized = subst (λ (z : ℤ). nat_abs (in_hundredths y z) ≤ price_limit) (sym part.0) sizes.0;
      raised_sized = sizes.1;
    }

price_passes : (y h : ℤ) (k : ℕ) → nat_abs y ≤ whole_limit → h ≡ pos k → k ≤ hundredths_limit → nat_abs (in_hundredths y h) ≤ price_limit → price_in_range y h ≡ true
price_passes y h k p e q r =
    both_true (size_in whole_limit y p)
    (both_true (within_from_zero hundredths_limit k h e q)
    (second_so (le_z (neg_ℤ (pos price_limit)) (in_hundredths y h)) _ (size_in price_limit (in_hundredths y h) r)))

-- ---- one bid, one entry

record SoundBid (m : ℕ) (pool whole quantity hundredths : ℤ) : Type 0 where
  in_range : within (pos 1) (pos m) pool ≡ true
  priced : SoundPrice whole hundredths
  sized : nat_abs quantity ≤ quantity_limit

sound_bid : (m : ℕ) (x y z h : ℤ) → bid_fault m x y z h ≡ 0 → SoundBid m x y z h
sound_bid m x y z h = go _ _ _ refl refl refl
  where
    go : (s t u : Bool) → within (pos 1) (pos m) x ≡ s
        → price_in_range y h ≡ t
        → within (neg_ℤ (pos quantity_limit)) (pos quantity_limit) z ≡ u
        → ◌≡◌ {A = ℕ} (cond s (cond t (cond u 0 6) 5) 4) 0 → SoundBid m x y z h
    go true true true p q r e = record { in_range = p; priced = sound_price y h q; sized = in_size quantity_limit z r }
    go true true false p q r e = absurd (omega arith)
    go true false u p q r e = absurd (omega arith)
    go false t u p q r e = absurd (omega arith)

bid_passes : (m k : ℕ) (x y z h : ℤ) → x ≡ pos (suc k) → k < m → price_in_range y h ≡ true → nat_abs z ≤ quantity_limit → bid_fault m x y z h ≡ 0
bid_passes m k x y z h e l p q =
    rw e
    (rw (le-leb 1 (suc k) (omega arith), le-leb (suc k) m l, p, size_in quantity_limit z q) refl)

sound_entry : (diagonal : Bool) (z : ℤ) → capacity_fault diagonal z ≡ 0 → (z ≡ pos (nat_abs z)) × (nat_abs z ≤ capacity_limit) × (diagonal ≡ true → nat_abs z ≡ 0)
sound_entry true z = go (eq_z z (pos 0)) refl
  where
    go : (t : Bool) → eq_z z (pos 0) ≡ t → ◌≡◌ {A = ℕ} (cond t 0 8) 0 → (z ≡ pos (nat_abs z)) × (nat_abs z ≤ capacity_limit) × (true ≡ true → nat_abs z ≡ 0)
    go true q e = let h : z ≡ pos 0 = eq_z_true z (pos 0) q in rw h (refl, omega arith, λ _. refl)
    go false q e = absurd (omega arith)
sound_entry false z = go (within (pos 0) (pos capacity_limit) z) refl
  where
    go : (t : Bool) → within (pos 0) (pos capacity_limit) z ≡ t → ◌≡◌ {A = ℕ} (cond t 0 7) 0 → (z ≡ pos (nat_abs z)) × (nat_abs z ≤ capacity_limit) × (false ≡ true → nat_abs z ≡ 0)
    go true q e = let h = from_zero capacity_limit z q in (h.0, h.1, λ f. absurd (true≢false (sym f)))
    go false q e = absurd (omega arith)

entry_passes : (diagonal : Bool) (z : ℤ) (c : ℕ) → z ≡ pos c → c ≤ capacity_limit → (diagonal ≡ true → c ≡ 0) → capacity_fault diagonal z ≡ 0
entry_passes true z c e l d = rw (e, d refl) refl
entry_passes false z c e l d = rw (within_from_zero capacity_limit c z e l) refl

module _ (B : Book) (accepted : AcceptedBook B) where
  sizes : Sizes B cell_count
  sizes = accepted_sizes B cell_count accepted

  -- no bid and no capacity is refused
  tables : first (bids_refusal B) (capacities_refusal B) ≡ none
  unfolding seal_refusal
  tables =
      first_right (length_refusal (tables_right B && eqb cell_count cell_count)) (first (bids_refusal B) (capacities_refusal B))
      (first_right (counts_refusal B.n B.m) (first (length_refusal (tables_right B && eqb cell_count cell_count)) (first (bids_refusal B) (capacities_refusal B))) accepted)

  -- the fault of bid i, 0 for none
  abbrev fault : ℕ → ℕ
  fault i = bid_fault B.m (pool B i) (whole_price B i) (quantity B i) (hundredths B i)

  right_bid : (i : ℕ) → i < B.n → SoundBid B.m (pool B i) (whole_price B i) (quantity B i) (hundredths B i)
  unfolding bids_refusal
  right_bid i l =
      sound_bid B.m (pool B i) (whole_price B i) (quantity B i) (hundredths B i)
      (numbered_zero (fault i) (i + 1) (all_none B.n (λ i. numbered (fault i) (i + 1)) (first_left (bids_refusal B) (capacities_refusal B) tables) i l))

  right_entry : (a b : ℕ) → a < B.m → b < B.m → capacity_fault (eqb a b) (capacity_entry B a b) ≡ 0
  unfolding capacities_refusal row_refusal
  right_entry a b l r =
      numbered_zero (capacity_fault (eqb a b) (capacity_entry B a b)) (a * B.m + b + 1)
      (all_none B.m (λ b. entry_refusal B a b)
      (all_none B.m (λ a. row_refusal B a) (first_right (bids_refusal B) (capacities_refusal B) tables) a l) b r)

  pub accepted_sound : Sound B
  accepted_sound = record {
    bids = sizes.counts.bids;
    pools_positive = sizes.counts.pools.least;
    pools = sizes.counts.pools.most;
    bid_table = sizes.lengths.bid_table;
    capacity_table = sizes.lengths.capacity_table;
    pool_is = λ i l. (in_pools B.m (pool B i) (right_bid i l).in_range).0;
    pool_index_lem = λ i l. (in_pools B.m (pool B i) (right_bid i l).in_range).1;
    whole_is = λ i l. (raised whole_limit (whole_price B i) (right_bid i l).priced.whole_sized).0;
    whole_small = λ i l. (raised whole_limit (whole_price B i) (right_bid i l).priced.whole_sized).1;
    whole_size = λ i l. (right_bid i l).priced.whole_sized;
    hundredths_is = λ i l. (right_bid i l).priced.hundredths_are;
    hundredths_small = λ i l. (right_bid i l).priced.hundredths_sized;
    price_small = λ i l. (right_bid i l).priced.raised_sized;
    price_size = λ i l. (right_bid i l).priced.price_sized;
    size_small = λ i l. (right_bid i l).sized;
    capacity_is = λ a b l r. (sound_entry (eqb a b) (capacity_entry B a b) (right_entry a b l r)).0;
    capacity_small = λ a b l r. (sound_entry (eqb a b) (capacity_entry B a b) (right_entry a b l r)).1;
    diagonal = λ a l. (sound_entry (eqb a a) (capacity_entry B a a) (right_entry a a l l)).2 (eq-eqb a a refl);
  }

-- of a sound book, bid i is in pool p exactly if p is its pool's index
pub in_pool_lem : (B : Book) → Sound B → (p i : ℕ) → i < B.n → in_pool B p i ≡ eqb (pool_index B i) p
in_pool_lem B ok p i l = ap (λ (z : ℤ). eq_z z (pos (suc p))) (ok.pool_is i l) ∙ eqb-suc-suc (pool_index B i) p

-- ---- a sound book is accepted

module _ (B : Book) (ok : Sound B) where
  counts_pass : counts_refusal B.n B.m ≡ none
  counts_pass =
      rw (le-ltb bid_limit B.n ok.bids, ne_eqb B.m 0 (λ e. let h : 0 < B.m = ok.pools_positive in omega arith), le-ltb pool_limit B.m ok.pools)
      refl

  lengths_pass : length_refusal (tables_right B && eqb cell_count cell_count) ≡ none
  lengths_pass = rw (eq-eqb _ _ ok.bid_table, eq-eqb _ _ ok.capacity_table) refl

  pub price_right : (i : ℕ) → i < B.n → price_in_range (whole_price B i) (hundredths B i) ≡ true
  price_right i l =
      price_passes (whole_price B i) (hundredths B i) (hundredths_part B i) (ok.whole_size i l) (ok.hundredths_is i l) (ok.hundredths_small i l) (ok.price_size i l)

  bids_pass : bids_refusal B ≡ none
  unfolding bids_refusal
  bids_pass =
      none_all B.n _
      (λ i l.
      ap (λ (k : ℕ). numbered k (i + 1))
      (bid_passes B.m (pool_index B i) (pool B i) (whole_price B i) (quantity B i) (hundredths B i) (ok.pool_is i l) (ok.pool_index_lem i l) (price_right i l) (ok.size_small i l)))

  entry_pass : (a b : ℕ) → a < B.m → b < B.m → entry_refusal B a b ≡ none
  entry_pass a b l r =
      ap (λ (k : ℕ). numbered k (a * B.m + b + 1))
      (entry_passes (eqb a b) (capacity_entry B a b) (capacity B a b) (ok.capacity_is a b l r) (ok.capacity_small a b l r) diagonal)
    where
      diagonal : eqb a b ≡ true → capacity B a b ≡ 0
      diagonal e = let same : a ≡ b = eqb-true a b e in rw (sym same) (ok.diagonal a l)

  capacities_pass : capacities_refusal B ≡ none
  unfolding capacities_refusal row_refusal
  capacities_pass = none_all B.m _ (λ a l. none_all B.m _ (λ b r. entry_pass a b l r))

  pub sound_accepted : AcceptedBook B
  unfolding seal_refusal
  sound_accepted = first_both counts_pass (first_both lengths_pass (first_both bids_pass capacities_pass))

-- ---- a book for all counts

-- n times the bid (1,0,1) with hundredths of 0
unfoldable pub bids_of : ℕ → List ℤ
bids_of zero = []
bids_of (suc n) = pos 1 ∷ pos 0 ∷ pos 1 ∷ pos 0 ∷ bids_of n

-- m pools with no line, and n such bids
unfoldable pub book_of : (n m : ℕ) → Book
book_of n m = book n m (bids_of n) (replicate (m * m) (pos 0))

bids_length : (n : ℕ) → length (bids_of n) ≡ bid_numbers * n
unfolding bids_of
bids_length zero = refl
bids_length (suc n) = omega (arith, bids_length n)

-- the numbers of each bid
numbers_of_lem : (n i : ℕ) → i < n
    → (get_or (bids_of n) (bid_numbers * i) (pos 0) ≡ pos 1)
    × (get_or (bids_of n) (bid_numbers * i + price_place) (pos 0) ≡ pos 0)
    × (get_or (bids_of n) (bid_numbers * i + quantity_place) (pos 0) ≡ pos 1)
    × (get_or (bids_of n) (bid_numbers * i + hundredths_place) (pos 0) ≡ pos 0)
unfolding bids_of
numbers_of_lem zero i l = absurd (omega arith)
numbers_of_lem (suc n) zero l = (refl, refl, refl, refl)
numbers_of_lem (suc n) (suc i) l =
    let rest = numbers_of_lem n i (omega arith) in
    let first : bid_numbers * suc i ≡ suc (suc (suc (suc (bid_numbers * i)))) = omega arith in
    let second : bid_numbers * suc i + price_place ≡ suc (suc (suc (suc (bid_numbers * i + price_place)))) = omega arith in
    let third : bid_numbers * suc i + quantity_place ≡ suc (suc (suc (suc (bid_numbers * i + quantity_place)))) = omega arith in
    let fourth : bid_numbers * suc i + hundredths_place ≡ suc (suc (suc (suc (bid_numbers * i + hundredths_place)))) = omega arith in
    (rw first rest.0, rw second rest.1, rw third rest.2, rw fourth rest.3)

books_sound : (n m : ℕ) → n ≤ bid_limit → 0 < m → m ≤ pool_limit → Sound (book_of n m)
unfolding book_of
books_sound n m bids positive pools = record {
  bids = bids;
  pools_positive = positive;
  pools = pools;
  bid_table = bids_length n;
  capacity_table = length-replicate (m * m) (pos 0);
  pool_is = λ i l. rw (numbers_of_lem n i l).0 refl;
  pool_index_lem = λ i l. rw (numbers_of_lem n i l).0 positive;
  whole_is = λ i l. rw (numbers_of_lem n i l).1 refl;
  whole_small = λ i l. rw (numbers_of_lem n i l).1 (omega arith);
  whole_size = λ i l. rw (numbers_of_lem n i l).1 (omega arith);
  hundredths_is = λ i l. rw (numbers_of_lem n i l).3 refl;
  hundredths_small = λ i l. rw (numbers_of_lem n i l).3 (omega arith);
  price_small = λ i l. rw ((numbers_of_lem n i l).1, (numbers_of_lem n i l).3) (omega arith);
  price_size = λ i l. rw ((numbers_of_lem n i l).1, (numbers_of_lem n i l).3) (omega arith);
  size_small = λ i l. rw (numbers_of_lem n i l).2 (omega arith);
  capacity_is = λ a b l r. rw (no_line a b) refl;
  capacity_small = λ a b l r. rw (no_line a b) (omega arith);
  diagonal = λ a l. rw (no_line a a) refl;
}
  where
    no_line : (a b : ℕ) → get_or (replicate (m * m) (pos 0)) (a * m + b) (pos 0) ≡ pos 0
    no_line a b = go (lt? (a * m + b) (m * m))
      where
        go : {t : Bool} → Lt? (a * m + b) (m * m) t → get_or (replicate (m * m) (pos 0)) (a * m + b) (pos 0) ≡ pos 0
        go (less l) = get_or-replicate (m * m) (a * m + b) (pos 0) (pos 0) l
        go (more l) = get_or-eq_default (replicate (m * m) (pos 0)) (pos 0) (omega (arith, length-replicate (m * m) (pos 0)))

-- an accepted book of n bids and m pools
pub record AcceptedBookOf (n m : ℕ) : Type 0 where
  pub given : Book
  pub bids : given.n ≡ n
  pub pools : given.m ≡ m
  pub accepted : AcceptedBook given

-- so what is shown of all accepted books of n bids and m pools is empty for no counts
pub books_exist : (n m : ℕ) → n ≤ bid_limit → 0 < m → m ≤ pool_limit → AcceptedBookOf n m
unfolding book_of
books_exist n m bids positive pools = record {
  given = book_of n m;
  bids = refl;
  pools = refl;
  accepted = sound_accepted (book_of n m) (books_sound n m (omega arith) (omega arith) (omega arith));
}
