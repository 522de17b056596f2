-- Dictionary order of flows by rows: from a comparison at the first difference to the order, and back.
use Rattle.std.specs.Prelude.{◌≡◌, true, ◌&&◌, ◌≢◌, ◌⊎◌, ℕ, ◌+◌, ◌*◌, ◌≤◌, ◌<◌, ◌/◌, ◌%◌, eqb, ltb}
use Rattle.std.proofs.Common.{sym, ap, ◌∙◌, inl, inr, arith, ltb-true, eqb-true, eq-eqb, lt-ltb, le-ltb}
use Rattle.std.proofs.Math.Nat.{mod-add-div'}
use Rattle.std.proofs.Math.Decide.{dec_lt}
use Rattle.std.proofs.Math.Arith.{digits_lt}
use Rattle.definitions.specs.Book.{Book}
use Rattle.laws.specs.AcceptedBook.{Sound}
use Rattle.std.proofs.lemmas.Bool.{or_left, or_right, or_cases}
use Rattle.theory.specs.Choices.{and_both, and_made}
use Rattle.theory.specs.StrictOrder.{StrictTotal, FirstDifference, first_difference, not_both_less}
use Rattle.theory.specs.Network.{SoundNetwork}
use Rattle.theory.specs.BookNetwork.{network_of, by_lines, by_pools, by_pools_lines, network_sound}
use Rattle.theory.specs.FlowOrder as rows
use Rattle.theory.specs.FlowOrder.{earlier_line, NoLaterFlows}

-- the numbers in their own order
numbers : (n : ℕ) → StrictTotal n (λ j i. ltb j i)
numbers n = record {
  irreflexive = λ i l. le-ltb i i (omega arith);
  transitive = λ i j k l r q e f. lt-ltb i k (omega (arith, ltb-true i j e, ltb-true j k f));
  connected = λ i j l r h. go i j h (dec_lt i j);
}
  where
    go : (i j : ℕ) → i ≢ j → Dec (i < j) → (ltb i j ≡ true) ⊎ (ltb j i ≡ true)
    go i j h (yes q) = inl (lt-ltb i j q)
    go i j h (no q) = inr (lt-ltb j i (omega arith))

-- an earlier line has a lower number, and the other way round
earlier_below : (m c d a b : ℕ) → d < m → earlier_line c d a b ≡ true → c * m + d < a * m + b
earlier_below m c d a b l e = go (or_cases (ltb c a) (eqb c a && ltb d b) e)
  where
    go : (ltb c a ≡ true) ⊎ ((eqb c a && ltb d b) ≡ true) → c * m + d < a * m + b
    go (inl h) = omega (arith, digits_lt (ltb-true c a h) l)
    go (inr h) =
        let q = and_both (eqb c a) (ltb d b) h in
        omega (arith, ltb-true d b q.1, ap (λ (z : ℕ). z * m) (eqb-true c a q.0))

below_earlier : (m c d a b : ℕ) → d < m → b < m → c * m + d < a * m + b → earlier_line c d a b ≡ true
below_earlier m c d a b l r h = go (dec_lt c a) (dec_lt a c)
  where
    go : Dec (c < a) → Dec (a < c) → earlier_line c d a b ≡ true
    go (yes p) q = or_left (ltb c a) (eqb c a && ltb d b) (lt-ltb c a p)
    go (no p) (yes q) = absurd (omega (arith, digits_lt q r))
    go (no p) (no q) =
        let e : c ≡ a = omega arith in
        or_right (ltb c a) (eqb c a && ltb d b) (and_made (eqb c a) (ltb d b) (eq-eqb c a e) (lt-ltb d b (omega (arith, ap (λ (z : ℕ). z * m) e))))

line_number : (m k : ℕ) → k / m * m + k % m ≡ k
line_number m k = omega (arith, mod-add-div' k m)

pub no_later_flows : (B : Book) → SoundNetwork (network_of B) → (f : ℕ → ℕ) (h : ℕ → ℕ → ℕ)
    → ((k : ℕ) → k < B.m * B.m → ((j : ℕ) → j < k → by_lines B h j ≡ f j) → f k ≤ by_lines B h k) → NoLaterFlows B (by_pools B f) h
no_later_flows B ok f h le = go (first_difference (B.m * B.m) (λ j i. ltb j i) (numbers (B.m * B.m)) f (by_lines B h))
  where
    go : ((k : ℕ) → k < B.m * B.m → f k ≡ by_lines B h k) ⊎ FirstDifference (B.m * B.m) (λ j i. ltb j i) (numbers (B.m * B.m)) f (by_lines B h) → NoLaterFlows B (by_pools B f) h
    go (inl e) = rows.equal (λ a b l r. e (a * B.m + b) (digits_lt l r) ∙ by_pools_lines B h a b r)
    go (inr d) =
        let k : ℕ = d.0 in
        let earlier : (j : ℕ) → j < k → f j ≡ by_lines B h j = λ j q. d.3 j (omega (arith, d.1)) (lt-ltb j k q) in
        rows.less (k / B.m) (k % B.m) (ok.source_below k d.1) (ok.target_below k d.1)
        (omega (arith, ap f (line_number B.m k), d.2, le k d.1 (λ j q. sym (earlier j q))))
        (λ x y l r e. earlier (x * B.m + y) (omega (arith, line_number B.m k, earlier_below B.m x y (k / B.m) (k % B.m) r e)) ∙ by_pools_lines B h x y r)

pub no_later_antisymmetric : (B : Book) → Sound B → (f h : ℕ → ℕ → ℕ) → NoLaterFlows B f h → NoLaterFlows B h f → (a b : ℕ) → a < B.m → b < B.m → f a b ≡ h a b
no_later_antisymmetric B ok f h (rows.equal e) q = e
no_later_antisymmetric B ok f h (rows.less a b l r p e) (rows.equal q) = λ x y u v. sym (q x y u v)
no_later_antisymmetric B ok f h (rows.less a b l r p e) (rows.less c d s t q g) =
    absurd (not_both_less (B.m * B.m) (λ j i. ltb j i) (numbers (B.m * B.m)) (by_lines B f) (by_lines B h) (a * B.m + b) (c * B.m + d) (digits_lt l r) (digits_lt s t)
    (omega (arith, p, by_pools_lines B f a b r, by_pools_lines B h a b r))
    (omega (arith, q, by_pools_lines B f c d t, by_pools_lines B h c d t))
    (before_line f h a b r e)
    (before_line h f c d t g))
  where
    before_line : (f h : ℕ → ℕ → ℕ) (a b : ℕ) → b < B.m → ((c d : ℕ) → c < B.m → d < B.m → earlier_line c d a b ≡ true → f c d ≡ h c d)
        → (j : ℕ) → j < B.m * B.m → ltb j (a * B.m + b) ≡ true → by_lines B f j ≡ by_lines B h j
    before_line f h a b r e j l q =
        let n = network_sound B ok in
        e (j / B.m) (j % B.m) (n.source_below j l) (n.target_below j l)
        (below_earlier B.m (j / B.m) (j % B.m) a b (n.target_below j l) r (omega (arith, line_number B.m j, ltb-true j (a * B.m + b) q)))
