-- Only the shortest form is read: an order that is read stands in the bytes that are written for it (`only_shortest`).
use Rattle.std.specs.Prelude.{ℕ, ◌+◌, ◌<◌, ◌≤◌, ◌≡◌, Bool, ltb, length, refl, true, false, cond, List, [], ◌∷◌, ◌++◌, drop}
use Rattle.std.proofs.Common.{ap, ap₂, subst, sym, ◌∙◌, arith, length-append, drop-drop, get_or-drop, append-nil, append_assoc, length-drop}
use Rattle.definitions.specs.declared.Order.{Order}
use Rattle.definitions.specs.declared.Order.TheVariants.{Constant, Sum, Difference, Product, Less, Equal}
use Rattle.definitions.specs.Limits.{cell_count, modulus}
use Rattle.definitions.specs.Answers.{kind_of}
use Rattle.definitions.specs.Machine.{WellFormed, ThreeCells}
use Rattle.definitions.specs.Bytes.{most_groups, number_limit, number_bytes, numbers_bytes, operands_of, order_bytes, Number, short, bad, number, read_groups, Read, fault, found, placed, number_at, below, kind_at, cell_at, constant_at, and_then, cells_orders, of_kind, last_at, rest_at, target_at, order_at, kind_count}
use Rattle.laws.specs.Tests.{Lt?, less, more, lt?, Eq?, same, diff, eq?}
use Rattle.codec.specs.Groups as groups
use Rattle.codec.specs.Groups.{Bytes}
use Rattle.codec.specs.OrderBytes.{cells_bytes}

pub fault_found {ℓ} : {X : Type ℓ} {A : Type 0} {k : ℕ} {a : A} {next : ℕ} → fault k ≡ found a next → X
fault_found e = cc

-- a number before what follows it
pub record Through {A : Type 0} (r : Read ℕ) (f : ℕ → ℕ → Read A) (a : A) (next : ℕ) : Type 0 where
  pub value : ℕ
  pub mid : ℕ
  pub was : r ≡ found value mid
  pub rest : f value mid ≡ found a next

pub through : {A : Type 0} (r : Read ℕ) (f : ℕ → ℕ → Read A) (a : A) (next : ℕ) → and_then r f ≡ found a next → Through r f a next
through (fault k) f a next e = cc
through (found v mid) f a next e = record { value = v; mid = mid; was = refl; rest = e }

-- an order found by its kind: it is of that kind, and what holds of each order searched holds of it
abbrev Each : (Order → Type 0) → List Order → Type 0
Each P [] = Unit {0}
Each P (o ∷ os) = P o × Each P os

module _ (P : Order → Type 0) (kind next : ℕ) (o : Order) (after : ℕ) where
  record OfKind : Type 0 where
    holds : P o
    kind_read : kind_of o ≡ kind
    offset : next ≡ after

  of_kind_lem : (os : List Order) → Each P os → of_kind kind next os ≡ found o after → OfKind
  of_kind_lem [] h e = cc
  of_kind_lem (x ∷ os) h e = go (eq? (kind_of x) kind) (of_kind_lem os h.1) e
    where
      go : {t : Bool} → Eq? (kind_of x) kind t → (of_kind kind next os ≡ found o after → OfKind) → cond t (found x next) (of_kind kind next os) ≡ found o after → OfKind
      go (same p) others e = let u : x ≡ o = cc in record { holds = subst P u h.0; kind_read = sym (ap kind_of u) ∙ p; offset = cc }
      go (diff p) others e = others e

-- an order that reads two cells, by its target and these
record ReadsCells (d a b : ℕ) (o : Order) : Type 0 where
  operands : operands_of o ≡ d ∷ a ∷ b ∷ []
  formed : ThreeCells d a b → WellFormed o

reads_cells : (d a b : ℕ) → Each (ReadsCells d a b) (cells_orders d a b)
reads_cells d a b =
    (itself (Sum d a b) refl (λ w. w), (itself (Difference d a b) refl (λ w. w), (itself (Product d a b) refl (λ w. w), (itself (Less d a b) refl (λ w. w), (itself (Equal d a b) refl (λ w. w), tt)))))
  where
    itself : (o : Order) → operands_of o ≡ d ∷ a ∷ b ∷ [] → (ThreeCells d a b → WellFormed o) → ReadsCells d a b o
    itself o e f = record { operands = e; formed = f }

-- the kind that is read is the kind that is written
cells_order_bytes : (kind d a b : ℕ) (o : Order) → kind_of o ≡ kind → ReadsCells d a b o → order_bytes o ≡ cells_bytes kind d a b
unfolding order_bytes
cells_order_bytes kind d a b o e r = ap₂ (λ (v : ℕ) (vs : List ℕ). numbers_bytes (v ∷ vs)) e r.operands

-- the last number apart from those before it
cells_front : (kind d a b : ℕ) → cells_bytes kind d a b ≡ ((number_bytes kind ++ number_bytes d) ++ number_bytes a) ++ number_bytes b
cells_front kind d a b =
    ap (λ (l : List ℕ). number_bytes kind ++ (number_bytes d ++ (number_bytes a ++ l))) (append-nil (number_bytes b)) ∙ sym (simp append_assoc)

constant_order_bytes : (d k : ℕ) → order_bytes (Constant d k) ≡ (number_bytes 0 ++ number_bytes d) ++ number_bytes k
unfolding order_bytes
constant_order_bytes d k =
    ap (λ (l : List ℕ). number_bytes 0 ++ (number_bytes d ++ l)) (append-nil (number_bytes k)) ∙ sym (append_assoc (number_bytes 0) (number_bytes d) (number_bytes k))

bytes_drop : (n : ℕ) (s : List ℕ) → Bytes s → Bytes (drop n s)
bytes_drop n s b i = rw (get_or-drop n s i 0) (b (n + i))

module _ (s : List ℕ) where
  -- some bytes were read at an offset, with the offset after them
  record Passed (at : ℕ) (xs : List ℕ) (next : ℕ) : Type 0 where
    onward : at < next
    within : next ≤ length s
    form : Bytes s → drop at s ≡ xs ++ drop next s

  passed_both : {at mid next : ℕ} {xs ys : List ℕ} → Passed at xs mid → Passed mid ys next → Passed at (xs ++ ys) next
  passed_both {at} {mid} {next} {xs} {ys} p q =
      record {
        onward = omega (arith, p.onward, q.onward);
        within = q.within;
        form = λ b. p.form b ∙ ap (λ (l : List ℕ). xs ++ l) (q.form b) ∙ sym (append_assoc xs ys (drop next s));
      }

  number_passed : (at v next : ℕ) → number_at s at ≡ found v next → Passed at (number_bytes v) next
  unfolding number_at number_bytes
  number_passed at v next e = go (read_groups most_groups true (drop at s)) refl e
    where
      go : (r : Number) → read_groups most_groups true (drop at s) ≡ r → placed at r ≡ found v next → Passed at (number_bytes v) next
      go short q e = cc
      go bad q e = cc
      go (number w n) q e = in_limit (ltb w number_limit) e
        where
          in_limit : (t : Bool) → cond t (found w (at + n)) (fault 11) ≡ found v next → Passed at (number_bytes v) next
          in_limit true e =
              let a : w ≡ v = cc in
              let b : at + n ≡ next = cc in
              let r = groups.only_shortest_groups most_groups true (drop at s) w n q in
              record {
                onward = omega (arith, r.some);
                within = omega (arith, r.some, r.inside, length-drop at s);
                form = λ o. r.form (bytes_drop at s o) ∙ ap₂ (λ (x : ℕ) (l : List ℕ). number_bytes x ++ l) a (drop-drop n at s ∙ ap (λ (x : ℕ). drop x s) b);
              }
          in_limit false e = cc

  -- a number below its limit
  record Limited (limit at v next : ℕ) : Type 0 where
    small : v < limit
    passed : Passed at (number_bytes v) next

  below_passed : (limit refusal at v next : ℕ) → below limit refusal (number_at s at) ≡ found v next → Limited limit at v next
  below_passed limit refusal at v next e = go (number_at s at) refl e
    where
      go : (r : Read ℕ) → number_at s at ≡ r → below limit refusal r ≡ found v next → Limited limit at v next
      go (fault k) q e = cc
      go (found w n) q e = in_limit (lt? w limit) e
        where
          in_limit : {t : Bool} → Lt? w limit t → cond t (found w n) (fault refusal) ≡ found v next → Limited limit at v next
          in_limit (less h) e = let p : w ≡ v = cc in record { small = omega arith; passed = number_passed at v next (q ∙ e) }
          in_limit (more h) e = cc

  kind_passed : (at v next : ℕ) → kind_at s at ≡ found v next → Limited kind_count at v next
  unfolding kind_at
  kind_passed at v next e = below_passed kind_count 10 at v next e

  cell_passed : (at v next : ℕ) → cell_at s at ≡ found v next → Limited cell_count at v next
  unfolding cell_at
  cell_passed at v next e = below_passed cell_count 12 at v next e

  constant_passed : (at v next : ℕ) → constant_at s at ≡ found v next → Limited modulus at v next
  unfolding constant_at
  constant_passed at v next e = below_passed modulus 12 at v next e

  -- the rest of an order whose first numbers have some bytes
  record Rest (front : List ℕ) (at : ℕ) (o : Order) (next : ℕ) : Type 0 where
    well_formed : WellFormed o
    bytes : List ℕ
    whole : order_bytes o ≡ front ++ bytes
    passed : Passed at bytes next

  -- one number earlier
  earlier : (front xs : List ℕ) (at mid : ℕ) (o : Order) (next : ℕ) → Passed at xs mid → Rest (front ++ xs) mid o next → Rest front at o next
  earlier front xs at mid o next p r =
      record { well_formed = r.well_formed; bytes = xs ++ r.bytes; whole = r.whole ∙ append_assoc front xs r.bytes; passed = passed_both p r.passed }

  last_rest : (kind d a at : ℕ) (o : Order) (next : ℕ) → d < cell_count → a < cell_count → last_at s kind d a at ≡ found o next → Rest ((number_bytes kind ++ number_bytes d) ++ number_bytes a) at o next
  unfolding last_at
  last_rest kind d a at o next hd ha e =
      let t = through (cell_at s at) (λ b n. of_kind kind n (cells_orders d a b)) o next e in
      let b : ℕ = t.value in
      let l = cell_passed at b t.mid t.was in
      let q = of_kind_lem (ReadsCells d a b) kind t.mid o next (cells_orders d a b) (reads_cells d a b) t.rest in
      record {
        well_formed = q.holds.formed (hd, ha, l.small);
        bytes = number_bytes b;
        whole = cells_order_bytes kind d a b o q.kind_read q.holds ∙ cells_front kind d a b;
        passed = subst (λ (n : ℕ). Passed at (number_bytes b) n) q.offset l.passed;
      }

  constant_rest : (d at : ℕ) (o : Order) (next : ℕ) → d < cell_count → and_then (constant_at s at) (λ k n. found (Constant d k) n) ≡ found o next → Rest (number_bytes 0 ++ number_bytes d) at o next
  constant_rest d at o next hd e =
      let t = through (constant_at s at) (λ k n. found (Constant d k) n) o next e in
      let k : ℕ = t.value in
      let l = constant_passed at k t.mid t.was in
      let q : found (Constant d k) t.mid ≡ found o next = t.rest in
      let u : Constant d k ≡ o = cc in
      let w : t.mid ≡ next = cc in
      let f : WellFormed (Constant d k) = (hd, l.small) in
      record {
        well_formed = subst WellFormed u f;
        bytes = number_bytes k;
        whole = sym (ap order_bytes u) ∙ constant_order_bytes d k;
        passed = subst (λ (n : ℕ). Passed at (number_bytes k) n) w l.passed;
      }

  rest_rest : (kind d at : ℕ) (o : Order) (next : ℕ) → kind < kind_count → d < cell_count → rest_at s kind d at ≡ found o next → Rest (number_bytes kind ++ number_bytes d) at o next
  unfolding rest_at
  rest_rest kind d at o next k hd e = go (eq? kind 0) e
    where
      go : {t : Bool} → Eq? kind 0 t
          → cond t (and_then (constant_at s at) (λ x n. found (Constant d x) n)) (and_then (cell_at s at) (λ a n. last_at s kind d a n)) ≡ found o next
          → Rest (number_bytes kind ++ number_bytes d) at o next
      go (same p) e = subst (λ (x : ℕ). Rest (number_bytes x ++ number_bytes d) at o next) (sym p) (constant_rest d at o next hd e)
      go (diff p) e =
          let t = through (cell_at s at) (λ a n. last_at s kind d a n) o next e in
          let l = cell_passed at t.value t.mid t.was in
          earlier (number_bytes kind ++ number_bytes d) (number_bytes t.value) at t.mid o next l.passed (last_rest kind d t.value t.mid o next hd l.small t.rest)

  target_rest : (kind at : ℕ) (o : Order) (next : ℕ) → kind < kind_count → target_at s kind at ≡ found o next → Rest (number_bytes kind) at o next
  unfolding target_at
  target_rest kind at o next k e =
      let t = through (cell_at s at) (λ d n. rest_at s kind d n) o next e in
      let l = cell_passed at t.value t.mid t.was in
      earlier (number_bytes kind) (number_bytes t.value) at t.mid o next l.passed (rest_rest kind t.value t.mid o next k l.small t.rest)

  order_rest : (at : ℕ) (o : Order) (next : ℕ) → order_at s at ≡ found o next → Rest [] at o next
  unfolding order_at
  order_rest at o next e =
      let t = through (kind_at s at) (λ kind n. target_at s kind n) o next e in
      let l = kind_passed at t.value t.mid t.was in
      earlier [] (number_bytes t.value) at t.mid o next l.passed (target_rest t.value t.mid o next l.small t.rest)

  -- what is known of an order that was read
  pub record OrderRead (at : ℕ) (o : Order) (next : ℕ) : Type 0 where
    pub well_formed : WellFormed o
    pub onward : at < next
    pub within : next ≤ length s

  pub order_read : (at : ℕ) (o : Order) (next : ℕ) → order_at s at ≡ found o next → OrderRead at o next
  order_read at o next e = let r = order_rest at o next e in record { well_formed = r.well_formed; onward = r.passed.onward; within = r.passed.within }

  -- it stands there in the bytes that are written for it
  pub record Shortest (at : ℕ) (o : Order) (next : ℕ) : Type 0 where
    pub well_formed : WellFormed o
    pub bytes : drop at s ≡ order_bytes o ++ drop next s
    pub size : next ≡ at + length (order_bytes o)
    pub within : next ≤ length s

  pub only_shortest : (at : ℕ) (o : Order) (next : ℕ) → Bytes s → order_at s at ≡ found o next → Shortest at o next
  only_shortest at o next b e =
      let r = order_rest at o next e in
      let p = r.passed in
      let form : drop at s ≡ order_bytes o ++ drop next s = p.form b ∙ ap (λ (l : List ℕ). l ++ drop next s) (sym r.whole) in
      record {
        well_formed = r.well_formed;
        bytes = form;
        size = omega (arith, ap length form, length-append (order_bytes o) (drop next s), length-drop at s, length-drop next s, p.onward, p.within);
        within = p.within;
      }
