-- What is written for an order of the machine is read as that order (`read_written`).
use Rattle.std.specs.Prelude.{ℕ, ◌+◌, ◌<◌, ◌≤◌, ◌≡◌, refl, Bool, drop, true, List, ◌++◌, length}
use Rattle.std.proofs.Common.{sym, ap, ◌∙◌, drop-drop, append_assoc, arith, lt-ltb, le-ltb, ne_eqb}
use Rattle.std.proofs.Math.Seq.{drop-append_seam}
use Rattle.definitions.specs.declared.Order.{Order}
use Rattle.definitions.specs.declared.Order.TheVariants.{Constant, Sum, Difference, Product, Less, Equal}
use Rattle.definitions.specs.Limits.{cell_count, modulus}
use Rattle.definitions.specs.Machine.{WellFormed, ThreeCells}
use Rattle.definitions.specs.Bytes.{most_groups, number_limit, number_bytes, order_bytes, read_groups, Read, fault, found, placed, number_at, below, kind_at, cell_at, constant_at, cells_orders, of_kind, last_at, rest_at, target_at, order_at, kind_count}
use Rattle.laws.specs.Tests.{Lt?, less, more, lt?}
use Rattle.codec.specs.Groups as groups
use Rattle.codec.specs.Groups.{groups_limit}
use Rattle.codec.specs.OrderBytes.{constant_bytes, cells_bytes, length₃, length₄}

module _ (s : List ℕ) where
  -- a number below a limit, and what stands behind it
  pub record There (r : Read ℕ) (at v : ℕ) (rest : List ℕ) : Type 0 where
    pub read : r ≡ found v (at + length (number_bytes v))
    pub then : drop (at + length (number_bytes v)) s ≡ rest

  pub number_there : (at v : ℕ) (rest : List ℕ) → v < number_limit → drop at s ≡ number_bytes v ++ rest → There (number_at s at) at v rest
  unfolding number_at number_bytes groups_limit
  number_there at v rest h e =
      record {
        read = ap (λ (l : List ℕ). placed at (read_groups most_groups true l)) e ∙ ap (placed at) (groups.groups_read_back most_groups v rest (omega arith) (omega arith)) ∙ simp (lt-ltb v number_limit h);
        then = sym (drop-drop (length (number_bytes v)) at s) ∙ ap (drop (length (number_bytes v))) e ∙ drop-append_seam (number_bytes v) rest;
      }

  below_there : (limit refusal at v : ℕ) (rest : List ℕ) → limit ≤ number_limit → v < limit → drop at s ≡ number_bytes v ++ rest → There (below limit refusal (number_at s at)) at v rest
  below_there limit refusal at v rest l h e =
      let n = number_there at v rest (omega arith) e in
      record { read = ap (below limit refusal) n.read ∙ simp (lt-ltb v limit h); then = n.then }

  -- "2^32 or more": such a number's bytes are refused, never read as another number
  pub number_too_big : (at v : ℕ) (rest : List ℕ) → number_limit ≤ v → drop at s ≡ number_bytes v ++ rest → number_at s at ≡ fault 11
  unfolding number_at number_bytes groups_limit
  number_too_big at v rest h e = ap (λ (l : List ℕ). placed at (read_groups most_groups true l)) e ∙ go (lt? v (groups_limit most_groups))
    where
      go : {t : Bool} → Lt? v (groups_limit most_groups) t → placed at (read_groups most_groups true (number_bytes v ++ rest)) ≡ fault 11
      go (less l) = ap (placed at) (groups.groups_read_back most_groups v rest (omega arith) l) ∙ simp (le-ltb v number_limit h)
      go (more l) = ap (placed at) (groups.too_big most_groups true v rest l)

  pub kind_there : (at v : ℕ) (rest : List ℕ) → v < kind_count → drop at s ≡ number_bytes v ++ rest → There (kind_at s at) at v rest
  unfolding kind_at
  kind_there at v rest h e = below_there kind_count 10 at v rest (omega arith) h e

  pub cell_there : (at v : ℕ) (rest : List ℕ) → v < cell_count → drop at s ≡ number_bytes v ++ rest → There (cell_at s at) at v rest
  unfolding cell_at
  cell_there at v rest h e = below_there cell_count 12 at v rest (omega arith) h e

  constant_there : (at v : ℕ) (rest : List ℕ) → v < modulus → drop at s ≡ number_bytes v ++ rest → There (constant_at s at) at v rest
  unfolding constant_at
  constant_there at v rest h e = below_there modulus 12 at v rest (omega arith) h e

  constant_order_there : (at d k : ℕ) (rest : List ℕ) → (d < cell_count) × (k < modulus) → drop at s ≡ constant_bytes d k ++ rest
      → order_at s at ≡ found (Constant d k) (at + length (constant_bytes d k))
  unfolding order_at target_at rest_at
  constant_order_there at d k rest w e =
      let n₁ = kind_there at 0 (number_bytes d ++ (number_bytes k ++ rest)) (omega arith) (simp append_assoc at e) in
      let n₂ = cell_there (at + length (number_bytes 0)) d (number_bytes k ++ rest) w.0 n₁.then in
      let n₃ = constant_there (at + length (number_bytes 0) + length (number_bytes d)) k rest w.1 n₂.then in
      rw (n₁.read, n₂.read, n₃.read) (ap (found (Constant d k)) (omega (arith, length₃ (number_bytes 0) (number_bytes d) (number_bytes k))))

  -- the order o of a kind 1 to 5
  cells_order_there : (at kind d a b : ℕ) (o : Order) (rest : List ℕ) → 0 < kind → kind < kind_count
      → ((next : ℕ) → of_kind kind next (cells_orders d a b) ≡ found o next) → ThreeCells d a b → drop at s ≡ cells_bytes kind d a b ++ rest
      → order_at s at ≡ found o (at + length (cells_bytes kind d a b))
  unfolding order_at target_at rest_at last_at
  cells_order_there at kind d a b o rest h k one w e =
      let n₁ = kind_there at kind (number_bytes d ++ (number_bytes a ++ (number_bytes b ++ rest))) k (simp append_assoc at e) in
      let n₂ = cell_there (at + length (number_bytes kind)) d (number_bytes a ++ (number_bytes b ++ rest)) w.0 n₁.then in
      let n₃ = cell_there (at + length (number_bytes kind) + length (number_bytes d)) a (number_bytes b ++ rest) w.1 n₂.then in
      let n₄ = cell_there (at + length (number_bytes kind) + length (number_bytes d) + length (number_bytes a)) b rest w.2 n₃.then in
      let z : kind ≡ 0 → ⊥ = λ q. let x : ⊥ = omega arith in x in
      rw (n₁.read, n₂.read, ne_eqb kind 0 z, n₃.read, n₄.read)
      (one (at + length (number_bytes kind) + length (number_bytes d) + length (number_bytes a) + length (number_bytes b))
      ∙ ap (found o) (omega (arith, length₄ (number_bytes kind) (number_bytes d) (number_bytes a) (number_bytes b))))

  pub read_written : (at : ℕ) (o : Order) (rest : List ℕ) → WellFormed o → drop at s ≡ order_bytes o ++ rest → order_at s at ≡ found o (at + length (order_bytes o))
  unfolding order_bytes
  read_written at (Constant d k) rest w e = constant_order_there at d k rest w e
  read_written at (Sum d a b) rest w e = cells_order_there at 1 d a b (Sum d a b) rest (omega arith) (omega arith) (λ next. refl) w e
  read_written at (Difference d a b) rest w e = cells_order_there at 2 d a b (Difference d a b) rest (omega arith) (omega arith) (λ next. refl) w e
  read_written at (Product d a b) rest w e = cells_order_there at 3 d a b (Product d a b) rest (omega arith) (omega arith) (λ next. refl) w e
  read_written at (Less d a b) rest w e = cells_order_there at 4 d a b (Less d a b) rest (omega arith) (omega arith) (λ next. refl) w e
  read_written at (Equal d a b) rest w e = cells_order_there at 5 d a b (Equal d a b) rest (omega arith) (omega arith) (λ next. refl) w e
