-- A number's groups of seven bits, over the number of groups: what is written is read (`groups_read_back`), and only the shortest form is read (`only_shortest_groups`).
use Rattle.std.specs.Prelude.{ℕ, zero, suc, ◌+◌, ◌*◌, ◌/◌, ◌%◌, ◌<◌, ◌≤◌, ◌≡◌, Bool, cond, drop, get_or, refl, true, false, List, [], ◌∷◌, ◌++◌, ltb, length}
use Rattle.std.proofs.Common.{ap, ap₂, ◌∙◌, true≢false, arith, add-one, lt-ltb, le-ltb, ltb-true, ltb-false}
use Rattle.definitions.specs.Bytes.{groups, Number, short, bad, number, last_group, more_groups, read_groups, group_size}
use Rattle.laws.specs.Tests.{Lt?, less, more, lt?}

-- each is a byte
abbrev pub Bytes : List ℕ → Type 0
Bytes xs = (i : ℕ) → get_or xs i 0 < 256

-- numbers of at most g groups are those below it
unfoldable pub groups_limit : (g : ℕ) → ℕ
groups_limit zero = 1
groups_limit (suc g) = group_size * groups_limit g

pub limit_positive : (g : ℕ) → 0 < groups_limit g
unfolding groups_limit
limit_positive zero = omega arith
limit_positive (suc g) = omega (arith, limit_positive g)

pub limit_grows : (g h : ℕ) → g ≤ h → groups_limit g ≤ groups_limit h
unfolding groups_limit
limit_grows zero h l = omega (arith, limit_positive h)
limit_grows (suc g) zero l = absurd (omega arith)
limit_grows (suc g) (suc h) l = omega (arith, limit_grows g h (omega arith))

-- ---- how many bytes a number has, and that they are bytes

pub at_most : (g v : ℕ) → length (groups g v) ≤ g
unfolding groups
at_most zero v = omega arith
at_most (suc g) v = go (ltb v group_size) (at_most g (v / group_size))
  where
    go : (t : Bool) → length (groups g (v / group_size)) ≤ g → length (cond t (v ∷ []) ((v % group_size + group_size) ∷ groups g (v / group_size))) ≤ suc g
    go true h = omega arith
    go false h = omega arith

pub at_least_one : (g v : ℕ) → 0 < g → 1 ≤ length (groups g v)
unfolding groups
at_least_one zero v h = absurd (omega arith)
at_least_one (suc g) v h = go (ltb v group_size)
  where
    go : (t : Bool) → 1 ≤ length (cond t (v ∷ []) ((v % group_size + group_size) ∷ groups g (v / group_size)))
    go true = omega arith
    go false = omega arith

-- a number below the limit of k + 1 groups has no more of them
pub at_most_within : (k g v : ℕ) → v < groups_limit (suc k) → length (groups g v) ≤ suc k
unfolding groups groups_limit
at_most_within k zero v h = omega arith
at_most_within zero (suc g) v h = simp (lt-ltb v group_size (omega arith)) (omega arith)
at_most_within (suc k) (suc g) v h = go (ltb v group_size) (at_most_within k g (v / group_size) (omega arith))
  where
    go : (t : Bool) → length (groups g (v / group_size)) ≤ suc k → length (cond t (v ∷ []) ((v % group_size + group_size) ∷ groups g (v / group_size))) ≤ suc (suc k)
    go true i = omega arith
    go false i = omega arith

pub groups_bytes : (g v : ℕ) → Bytes (groups g v)
unfolding groups
groups_bytes zero v i = omega arith
groups_bytes (suc g) v i = go (lt? v group_size) (groups_bytes g (v / group_size)) i
  where
    go : {t : Bool} → Lt? v group_size t → Bytes (groups g (v / group_size)) → Bytes (cond t (v ∷ []) ((v % group_size + group_size) ∷ groups g (v / group_size)))
    go (less h) ih zero = omega arith
    go (less h) ih (suc i) = omega arith
    go (more h) ih zero = omega arith
    go (more h) ih (suc i) = ih i

-- ---- what is written is read

module _ (g : ℕ) (first : Bool) (v : ℕ) (rest : List ℕ) where
  one_group : last_group first v ≡ number v 1
      → (group_size ≤ v → read_groups g false (groups g (v / group_size) ++ rest) ≡ number (v / group_size) (length (groups g (v / group_size))))
      → read_groups (suc g) first (groups (suc g) v ++ rest) ≡ number v (length (groups (suc g) v))
  unfolding read_groups groups
  one_group l later = go (ltb v group_size) refl
    where
      go : (t : Bool) → ltb v group_size ≡ t
          → read_groups (suc g) first (cond t (v ∷ []) ((v % group_size + group_size) ∷ groups g (v / group_size)) ++ rest)
          ≡ number v (length (cond t (v ∷ []) ((v % group_size + group_size) ∷ groups g (v / group_size))))
      go true q = simp q l
      go false q =
          let h : group_size ≤ v = ltb-false _ _ q in
          let high : ltb (v % group_size + group_size) group_size ≡ false = le-ltb (v % group_size + group_size) group_size (omega arith) in
          simp high (
          ap (more_groups (v % group_size + group_size)) (later h)
          ∙ ap₂ number (let p : (v % group_size + group_size) % group_size + group_size * (v / group_size) ≡ v = omega arith in p) (add-one (length (groups g (v / group_size))))
          )

-- the groups after the first, which are not 0
later_read_written : (g v : ℕ) (rest : List ℕ) → v < groups_limit g → 0 < v → read_groups g false (groups g v ++ rest) ≡ number v (length (groups g v))
unfolding groups_limit
later_read_written zero v rest h k = absurd (omega arith)
later_read_written (suc g) v rest h k = one_group g false v rest (simp (lt-ltb 0 v k)) (λ b. later_read_written g (v / group_size) rest (omega arith) (omega arith))

pub groups_read_back : (g v : ℕ) (rest : List ℕ) → 0 < g → v < groups_limit g → read_groups g true (groups g v ++ rest) ≡ number v (length (groups g v))
unfolding groups_limit
groups_read_back zero v rest k h = absurd (omega arith)
groups_read_back (suc g) v rest k h = one_group g true v rest refl (λ b. later_read_written g (v / group_size) rest (omega arith) (omega arith))

-- a number too big for g groups leaves no last group
pub too_big : (g : ℕ) (first : Bool) (v : ℕ) (rest : List ℕ) → groups_limit g ≤ v → read_groups g first (groups g v ++ rest) ≡ bad
unfolding groups groups_limit read_groups
too_big zero first v rest h = refl
too_big (suc g) first v rest h =
    let l : group_size ≤ v = omega (arith, limit_positive g) in
    let high : ltb (v % group_size + group_size) group_size ≡ false = le-ltb (v % group_size + group_size) group_size (omega arith) in
    rw (le-ltb v group_size l, high, too_big g false (v / group_size) rest (omega arith)) refl

-- ---- only the shortest form is read

-- what is known of a number v that was read in n bytes at the head of xs
pub record ShortestGroups (g : ℕ) (first : Bool) (xs : List ℕ) (v n : ℕ) : Type 0 where
  pub value : v < groups_limit g
  pub size : n ≤ g
  pub some : 0 < n
  pub inside : n ≤ length xs
  pub positive : first ≡ false → 0 < v
  pub form : Bytes xs → xs ≡ groups g v ++ drop n xs

last_form : (g x : ℕ) (xs : List ℕ) → x < group_size → x ∷ xs ≡ groups (suc g) x ++ drop 1 (x ∷ xs)
unfolding groups
last_form g x xs h = simp (lt-ltb x group_size h)

-- a group before the others is the number's lowest seven bits
more_form : (g x w : ℕ) → group_size ≤ x → x < 256 → 0 < w → groups (suc g) (x % group_size + group_size * w) ≡ x ∷ groups g w
unfolding groups
more_form g x w h k p =
    let q : ltb (x % group_size + group_size * w) group_size ≡ false = le-ltb (x % group_size + group_size * w) group_size (omega arith) in
    let a : (x % group_size + group_size * w) % group_size + group_size ≡ x = omega arith in
    let b : (x % group_size + group_size * w) / group_size ≡ w = omega arith in
    simp q (ap₂ (λ (y : ℕ) (z : ℕ). y ∷ groups g z) a b)

module _ (g : ℕ) (first : Bool) (x : ℕ) (xs : List ℕ) (v n : ℕ) where
  last_known : x < group_size → (first ≡ false → 0 < x) → number x 1 ≡ number v n → ShortestGroups (suc g) first (x ∷ xs) v n
  unfolding groups_limit
  last_known h k e =
      let p : x ≡ v = cc in
      let q : 1 ≡ n = cc in
      record {
        value = omega (arith, limit_positive g);
        size = omega arith;
        some = omega arith;
        inside = omega arith;
        positive = λ z. let o : 0 < x = k z in omega arith;
        form = λ b. rw (← p, ← q) (last_form g x xs h);
      }

  more_known : (r : Number) → group_size ≤ x → ((w k : ℕ) → r ≡ number w k → ShortestGroups g false xs w k) → more_groups x r ≡ number v n → ShortestGroups (suc g) first (x ∷ xs) v n
  unfolding groups_limit
  more_known short h known e = cc
  more_known bad h known e = cc
  more_known (number w k) h known e =
      let p : x % group_size + group_size * w ≡ v = cc in
      let q : k + 1 ≡ n = cc in
      let i = known w k refl in
      let a : w < groups_limit g = i.value in
      let b : k ≤ g = i.size in
      let d : 0 < w = i.positive refl in
      let j : k ≤ length xs = i.inside in
      record {
        value = omega arith;
        size = omega arith;
        some = omega arith;
        inside = omega arith;
        positive = λ z. omega arith;
        form = λ o. rw (← p, ← q, add-one k, more_form g x w h (o 0) d) (ap (λ (l : List ℕ). x ∷ l) (i.form (λ j. o (suc j))));
      }

last_shortest : (g : ℕ) (first : Bool) (x : ℕ) (xs : List ℕ) (v n : ℕ) → x < group_size → last_group first x ≡ number v n → ShortestGroups (suc g) first (x ∷ xs) v n
last_shortest g true x xs v n h e = last_known g true x xs v n h (λ z. absurd (true≢false z)) e
last_shortest g false x xs v n h e = go (ltb 0 x) refl e
  where
    go : (t : Bool) → ltb 0 x ≡ t → cond t (number x 1) bad ≡ number v n → ShortestGroups (suc g) false (x ∷ xs) v n
    go true q e = last_known g false x xs v n h (λ _. ltb-true 0 x q) e
    go false q e = cc

pub only_shortest_groups : (g : ℕ) (first : Bool) (xs : List ℕ) (v n : ℕ) → read_groups g first xs ≡ number v n → ShortestGroups g first xs v n
unfolding read_groups
only_shortest_groups zero first xs v n e = cc
only_shortest_groups (suc g) first [] v n e = cc
only_shortest_groups (suc g) first (x ∷ xs) v n e = go (ltb x group_size) refl (only_shortest_groups g false xs) e
  where
    go : (t : Bool) → ltb x group_size ≡ t → ((w k : ℕ) → read_groups g false xs ≡ number w k → ShortestGroups g false xs w k)
        → cond t (last_group first x) (more_groups x (read_groups g false xs)) ≡ number v n → ShortestGroups (suc g) first (x ∷ xs) v n
    go true q later e = last_shortest g first x xs v n (ltb-true _ _ q) e
    go false q later e = more_known g first x xs v n (read_groups g false xs) (ltb-false _ _ q) later e
