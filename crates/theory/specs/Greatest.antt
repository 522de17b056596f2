-- Used amounts along a strict total order of the bids, each a difference of two ranks: they keep within all cuts and are the greatest in dictionary order.
use Rattle.std.specs.Prelude.{◌≡◌, Bool, ◌&&◌, ◌||◌, ◌≢◌, ◌⊎◌, ℕ, zero, suc, ◌+◌, ◌-◌, ◌≤◌, ◌<◌, ltb, refl, true, false, not, eqb}
use Rattle.std.proofs.Common.{ap, sym, ◌∙◌, true≢false, inl, inr, arith, lt-ltb}
use Rattle.definitions.specs.Arithmetic.{on}
use Rattle.laws.specs.Sum.{sum_ext, sum_add, sum_zero, sum_one}
use Rattle.laws.specs.Tests.{Eq?, same, diff, eq?, Lt?, less, more, lt?}
use Rattle.theory.specs.Subsets.{member}
use Rattle.theory.specs.Network.{Network, SoundNetwork, demand, cut, amount_in, ◌adding◌}
use Rattle.theory.specs.Rank.{bid_sum, rank, cost, outside, rank_le, rank_monotone, rank_ext, rank_one_more, rank_none, rank_all, rank_bound, gains_diminish}
use Rattle.theory.specs.Balance.{all, FeasibleUse, cut_bound}
use Rattle.theory.specs.Flows.{WithinCuts}
use Rattle.std.specs.Cmp.{both_ways}
use Rattle.theory.specs.Choices.{and_made}
use Rattle.theory.specs.StrictOrder.{StrictTotal, place, place_le, place_lt, place_before, place_inj, find}

-- the bids before bid i
abbrev pub ahead : (ℕ → ℕ → Bool) → ℕ → ℕ → Bool
ahead before i = λ j. before j i

-- the best clearing's used amount of bid i
unfoldable pub best_used : Network → (ℕ → ℕ → Bool) → ℕ → ℕ
best_used N before i = rank N (ahead before i adding i) - rank N (ahead before i)

-- totals
bid_sum_ext : (N : Network) (v : ℕ → ℕ) (A B : ℕ → Bool) → ((i : ℕ) → i < N.bids → A i ≡ B i) → bid_sum N v A ≡ bid_sum N v B
unfolding bid_sum
bid_sum_ext N v A B h = sum_ext _ _ _ (λ i l. ap (λ (z : Bool). on z (v i)) (h i l))

adding_one : (x : Bool) (j i v : ℕ) {t : Bool} → Eq? j i t → (j ≡ i → x ≡ false) → on (x || t) v ≡ on x v + on t v
adding_one true j i v (same p) h = absurd (true≢false (h p))
adding_one false j i v (same p) h = omega arith
adding_one true j i v (diff p) h = omega arith
adding_one false j i v (diff p) h = omega arith

bid_sum_with : (N : Network) (v : ℕ → ℕ) (B : ℕ → Bool) (i : ℕ) → i < N.bids → B i ≡ false → bid_sum N v (B adding i) ≡ bid_sum N v B + v i
unfolding bid_sum
bid_sum_with N v B i l h =
    omega (
      arith,
      sum_ext N.bids (λ j. on (B j || eqb j i) (v j)) (λ j. on (B j) (v j) + on (eqb j i) (v j)) (λ j r. adding_one (B j) j i (v j) (eq? j i) (λ e. ap B e ∙ h)),
      sum_add N.bids (λ j. on (B j) (v j)) (λ j. on (eqb j i) (v j)),
      sum_one N.bids i v l,
    )

places_skip : (x : Bool) (p k : ℕ) {t t' : Bool} → Lt? p k t → Lt? p (suc k) t' → (x ≡ true → p ≢ k) → (x && t') ≡ (x && t)
places_skip false p k a c h = refl
places_skip true p k (less l) (less r) h = refl
places_skip true p k (more l) (more r) h = refl
places_skip true p k (less l) (more r) h = absurd (omega arith)
places_skip true p k (more l) (less r) h = absurd (h refl (omega arith))

places_take : (x : Bool) (p k j i : ℕ) {t t' e : Bool} → Lt? p k t → Lt? p (suc k) t' → Eq? j i e → (j ≡ i → p ≡ k) → (j ≡ i → x ≡ true) → (p ≡ k → j ≡ i) → (x && t') ≡ ((x && t) || e)
places_take false p k j i a c (same q) h y w = absurd (true≢false (sym (y q)))
places_take false p k j i a c (diff q) h y w = refl
places_take true p k j i (less l) (less r) q h y w = refl
places_take true p k j i (less l) (more r) q h y w = absurd (omega arith)
places_take true p k j i (more l) (less r) (same q) h y w = refl
places_take true p k j i (more l) (less r) (diff q) h y w = absurd (q (w (omega arith)))
places_take true p k j i (more l) (more r) (same q) h y w = absurd (omega (arith, h q))
places_take true p k j i (more l) (more r) (diff q) h y w = refl

places_here : (x : Bool) (p k : ℕ) {t : Bool} → Lt? p k t → p ≡ k → (x && t) ≡ false
places_here false p k a h = refl
places_here true p k (less l) h = absurd (omega arith)
places_here true p k (more l) h = refl

places_end : (x : Bool) (p k : ℕ) {t : Bool} → Lt? p k t → p < k → (x && t) ≡ x
places_end false p k a h = refl
places_end true p k (less l) h = refl
places_end true p k (more l) h = absurd (omega arith)

places_below : (x : Bool) (p k : ℕ) {t : Bool} → Lt? p k t → (x && t) ≡ true → p < k
places_below x p k (less l) e = l
places_below true p k (more l) e = absurd (true≢false (sym e))
places_below false p k (more l) e = absurd (true≢false (sym e))

module _ (N : Network) (ok : SoundNetwork N) (before : ℕ → ℕ → Bool) (o : StrictTotal N.bids before) where
  abbrev place_of : ℕ → ℕ
  place_of i = place N.bids before i

  -- the bids of B at the first k places
  abbrev first_places : (ℕ → Bool) → ℕ → ℕ → Bool
  first_places B k = λ i. B i && ltb (place_of i) k

  pub gain : (i : ℕ) → best_used N before i + rank N (ahead before i) ≡ rank N (ahead before i adding i)
  unfolding best_used
  gain i = omega (arith, rank_monotone N ok (ahead before i) (ahead before i adding i) (λ j l e. ap (λ (z : Bool). z || eqb j i) e))

  best_size : (i : ℕ) → i < N.bids → best_used N before i ≤ N.size i
  best_size i l = omega (arith, gain i, rank_one_more N ok (ahead before i) i l)

  -- one more place: no bid of B is there, or one
  abbrev NextPlace : (ℕ → Bool) → ℕ → Type 0
  NextPlace B k =
      ((j : ℕ) → j < N.bids → first_places B (suc k) j ≡ first_places B k j)
      ⊎ ((i : ℕ) × (i < N.bids) × (B i ≡ true) × (place_of i ≡ k) × ((j : ℕ) → j < N.bids → first_places B (suc k) j ≡ (first_places B k adding i) j))

  next_place : (B : ℕ → Bool) (k : ℕ) → NextPlace B k
  next_place B k = go (find N.bids (λ i. place_of i) k)
    where
      at : (i : ℕ) → i < N.bids → place_of i ≡ k → (x : Bool) → B i ≡ x → NextPlace B k
      at i l e true h =
          inr (
            i,
            l,
            h,
            e,
            λ j r. places_take (B j) (place_of j) k j i (lt? (place_of j) k) (lt? (place_of j) (suc k)) (eq? j i)
                (λ q. ap (λ (z : ℕ). place_of z) q ∙ e) (λ q. ap B q ∙ h) (λ q. place_inj N.bids before o j i r l (q ∙ sym e)),
          )
      at i l e false h =
          inl (λ j r. places_skip (B j) (place_of j) k (lt? (place_of j) k) (lt? (place_of j) (suc k))
          (λ y q. true≢false (sym y ∙ ap B (place_inj N.bids before o j i r l (q ∙ sym e)) ∙ h)))

      go : ((i : ℕ) × (i < N.bids) × (place_of i ≡ k)) ⊎ ((i : ℕ) → i < N.bids → place_of i ≢ k) → NextPlace B k
      go (inl h) = at h.0 h.1 h.2 (B h.0) refl
      go (inr h) = inl (λ j r. places_skip (B j) (place_of j) k (lt? (place_of j) k) (lt? (place_of j) (suc k)) (λ y q. h j r q))

  none_at : (B : ℕ → Bool) (i : ℕ) → first_places B 0 i ≡ false
  none_at B i = go (B i) (lt? (place_of i) 0)
    where
      go : (x : Bool) {t : Bool} → Lt? (place_of i) 0 t → (x && t) ≡ false
      go false a = refl
      go true (less l) = absurd (omega arith)
      go true (more l) = refl

  all_at : (B : ℕ → Bool) (i : ℕ) → first_places B (suc N.bids) i ≡ B i
  all_at B i = places_end (B i) (place_of i) (suc N.bids) (lt? (place_of i) (suc N.bids)) (omega (arith, place_le N.bids before o i))

  bid_sum_none : (v : ℕ → ℕ) → bid_sum N v (λ i. false) ≡ 0
  unfolding bid_sum
  bid_sum_none v = sum_zero N.bids

  places_ahead : (B : ℕ → Bool) (k i : ℕ) → i < N.bids → place_of i ≡ k → (j : ℕ) → j < N.bids → first_places B k j ≡ true → before j i ≡ true
  places_ahead B k i l e j r h =
      place_before N.bids before o j i r l (omega (arith, e, places_below (B j) (place_of j) k (lt? (place_of j) k) h))

  places_not : (B : ℕ → Bool) (k i : ℕ) → place_of i ≡ k → first_places B k i ≡ false
  places_not B k i e = places_here (B i) (place_of i) k (lt? (place_of i) k) e

  -- no set of bids gets more than its rank
  upto_le : (B : ℕ → Bool) (k : ℕ) → bid_sum N (best_used N before) (first_places B k) ≤ rank N (first_places B k)
  upto_le B zero =
      omega (arith, bid_sum_ext N (best_used N before) (first_places B 0) (λ i. false) (λ i l. none_at B i), bid_sum_none (best_used N before))
  upto_le B (suc k) = go (next_place B k) (upto_le B k)
    where
      F : ℕ → ℕ → Bool
      F = first_places B

      go : NextPlace B k → bid_sum N (best_used N before) (F k) ≤ rank N (F k) → bid_sum N (best_used N before) (F (suc k)) ≤ rank N (F (suc k))
      go (inl h) ih = omega (arith, ih, bid_sum_ext N (best_used N before) (F (suc k)) (F k) h, rank_ext N ok (F (suc k)) (F k) h)
      go (inr h) ih =
          let i = h.0 in
          omega (
            arith,
            ih,
            bid_sum_ext N (best_used N before) (F (suc k)) (F k adding i) h.4,
            rank_ext N ok (F (suc k)) (F k adding i) h.4,
            bid_sum_with N (best_used N before) (F k) i h.1 (places_not B k i h.3),
            gain i,
            gains_diminish N ok (F k) (ahead before i) i (places_ahead B k i h.1 h.3) (o.irreflexive i h.1),
          )

  best_le_rank : (B : ℕ → Bool) → bid_sum N (best_used N before) B ≤ rank N B
  best_le_rank B =
      let F = first_places B (suc N.bids) in
      omega (arith, upto_le B (suc N.bids), bid_sum_ext N (best_used N before) F B (λ i l. all_at B i), rank_ext N ok F B (λ i l. all_at B i))

  -- an initial part of the merit order gets its rank
  abbrev pub Initial : (ℕ → Bool) → Type 0
  Initial B = (i j : ℕ) → i < N.bids → j < N.bids → B i ≡ true → before j i ≡ true → B j ≡ true

  ahead_places : (B : ℕ → Bool) → Initial B → (k i : ℕ) → i < N.bids → B i ≡ true → place_of i ≡ k → (j : ℕ) → j < N.bids → before j i ≡ true → first_places B k j ≡ true
  ahead_places B d k i l h e j r q =
      and_made (B j) (ltb (place_of j) k) (d i j l r h q) (lt-ltb (place_of j) k (omega (arith, e, place_lt N.bids before o j i r l q)))

  upto_eq : (B : ℕ → Bool) → Initial B → (k : ℕ) → bid_sum N (best_used N before) (first_places B k) ≡ rank N (first_places B k)
  upto_eq B d zero =
      omega (
        arith,
        bid_sum_ext N (best_used N before) (first_places B 0) (λ i. false) (λ i l. none_at B i),
        bid_sum_none (best_used N before),
        rank_ext N ok (first_places B 0) (λ i. false) (λ i l. none_at B i),
        rank_none N ok,
      )
  upto_eq B d (suc k) = go (next_place B k) (upto_eq B d k)
    where
      F : ℕ → ℕ → Bool
      F = first_places B

      go : NextPlace B k → bid_sum N (best_used N before) (F k) ≡ rank N (F k) → bid_sum N (best_used N before) (F (suc k)) ≡ rank N (F (suc k))
      go (inl h) ih = omega (arith, ih, bid_sum_ext N (best_used N before) (F (suc k)) (F k) h, rank_ext N ok (F (suc k)) (F k) h)
      go (inr h) ih =
          let i = h.0 in
          let up = places_ahead B k i h.1 h.3 in
          let down = ahead_places B d k i h.1 h.2 h.3 in
          omega (
            arith,
            ih,
            bid_sum_ext N (best_used N before) (F (suc k)) (F k adding i) h.4,
            rank_ext N ok (F (suc k)) (F k adding i) h.4,
            bid_sum_with N (best_used N before) (F k) i h.1 (places_not B k i h.3),
            gain i,
            rank_ext N ok (F k) (ahead before i) (λ j r. both_ways (F k j) (before j i) (up j r) (down j r)),
            rank_ext N ok (F k adding i) (ahead before i adding i) (λ j r. ap (λ (z : Bool). z || eqb j i) (both_ways (F k j) (before j i) (up j r) (down j r))),
          )

  pub best_initial : (B : ℕ → Bool) → Initial B → bid_sum N (best_used N before) B ≡ rank N B
  best_initial B d =
      let F = first_places B (suc N.bids) in
      omega (arith, upto_eq B d (suc N.bids), bid_sum_ext N (best_used N before) F B (λ i l. all_at B i), rank_ext N ok F B (λ i l. all_at B i))

  -- the best clearing meets the cuts
  best_cuts : (S : ℕ → Bool) → amount_in N (best_used N before) S ≤ cut N S
  unfolding amount_in bid_sum cost outside
  best_cuts S =
      omega (arith, best_le_rank (λ i. S (N.pool i)), rank_le N ok (λ i. S (N.pool i)) S, outside_own S)
    where
      own : (s : Bool) (v : ℕ) → on (s && not s) v ≡ 0
      own true v = refl
      own false v = refl

      outside_own : (S : ℕ → Bool) → outside N (λ i. S (N.pool i)) S ≡ 0
      outside_own S = sum_ext N.bids _ (λ i. 0) (λ i l. own (S (N.pool i)) (N.size i)) ∙ sum_zero N.bids

  best_whole : amount_in N (best_used N before) all ≡ demand N all
  unfolding amount_in bid_sum
  best_whole = best_initial (λ i. true) (λ i j l r p q. refl) ∙ rank_all N ok

  pub best_within_cuts : WithinCuts N (best_used N before)
  best_within_cuts = record { ok = ok; sizes = best_size; cuts = best_cuts; whole = best_whole }

  -- greatest in dictionary order
  pub best_greatest : (y f : ℕ → ℕ) → FeasibleUse N y f → (i : ℕ) → i < N.bids → ((j : ℕ) → j < N.bids → before j i ≡ true → y j ≡ best_used N before j) → y i ≤ best_used N before i
  best_greatest y f c i l h =
      omega (
        arith,
        rank_bound N y c.sizes (λ s. cut_bound N ok y f c (member s)) (ahead before i adding i),
        bid_sum_with N y (ahead before i) i l (o.irreflexive i l),
        gain i,
        same_bid_sum,
        best_initial (ahead before i) (λ j k p q e e'. o.transitive k j i q p l e' e),
      )
    where
      on_same : (t : Bool) (v w : ℕ) → (t ≡ true → v ≡ w) → on t v ≡ on t w
      on_same true v w e = e refl
      on_same false v w e = refl

      same_bid_sum : bid_sum N y (ahead before i) ≡ bid_sum N (best_used N before) (ahead before i)
      same_bid_sum = unfold bid_sum in sum_ext _ _ _ (λ j r. on_same (before j i) (y j) (best_used N before j) (h j r))
