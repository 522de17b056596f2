-- An order's bytes are accepted only if it is one of the machine's (`accepted_written`).
use Rattle.std.specs.Prelude.{ℕ, ◌+◌, ◌<◌, ◌≤◌, ◌≡◌, Bool, drop, List, ◌++◌, length}
use Rattle.std.proofs.Common.{sym, ap, ◌∙◌, le-ltb, ne_eqb, append_assoc, arith}
use Rattle.definitions.specs.declared.Order.{Order}
use Rattle.definitions.specs.declared.Order.TheVariants.{Constant, Sum, Difference, Product, Less, Equal}
use Rattle.definitions.specs.Limits.{cell_count, modulus}
use Rattle.definitions.specs.Machine.{WellFormed, ThreeCells}
use Rattle.definitions.specs.Bytes.{number_limit, number_bytes, order_bytes, Read, found, number_at, below, cell_at, constant_at, and_then, cells_orders, of_kind, last_at, rest_at, target_at, order_at, kind_count}
use Rattle.laws.specs.Tests.{Lt?, less, more, lt?}
use Rattle.codec.specs.OrderBytes.{constant_bytes, cells_bytes}
use Rattle.codec.specs.OrderReadBack.{number_there, number_too_big, kind_there, cell_there}
use Rattle.codec.specs.OrderShortest.{fault_found, through}

module _ (s : List ℕ) where
  -- a number that passes its limit
  limited : (limit refusal at v : ℕ) (rest : List ℕ) {w next : ℕ} → limit ≤ number_limit → drop at s ≡ number_bytes v ++ rest → below limit refusal (number_at s at) ≡ found w next → v < limit
  limited limit refusal at v rest {w} {next} l e q = go (lt? v limit)
    where
      big : {t : Bool} → Lt? v number_limit t → limit ≤ v → v < limit
      big (less h) b = fault_found {k = refusal} (sym (ap (below limit refusal) (number_there s at v rest h e).read ∙ simp (le-ltb v limit b)) ∙ q)
      big (more h) b = fault_found (sym (ap (below limit refusal) (number_too_big s at v rest h e)) ∙ q)

      go : {t : Bool} → Lt? v limit t → v < limit
      go (less h) = h
      go (more h) = big (lt? v number_limit) h

  cell_limited : (at v : ℕ) (rest : List ℕ) {w next : ℕ} → drop at s ≡ number_bytes v ++ rest → cell_at s at ≡ found w next → v < cell_count
  unfolding cell_at
  cell_limited at v rest e q = limited cell_count 12 at v rest (omega arith) e q

  constant_limited : (at v : ℕ) (rest : List ℕ) {w next : ℕ} → drop at s ≡ number_bytes v ++ rest → constant_at s at ≡ found w next → v < modulus
  unfolding constant_at
  constant_limited at v rest e q = limited modulus 12 at v rest (omega arith) e q

  constant_accepted : (at d k : ℕ) (rest : List ℕ) {o : Order} {next : ℕ} → drop at s ≡ constant_bytes d k ++ rest → order_at s at ≡ found o next → (d < cell_count) × (k < modulus)
  unfolding order_at target_at rest_at
  constant_accepted at d k rest {o} {next} e q =
      let n₁ = kind_there s at 0 (number_bytes d ++ (number_bytes k ++ rest)) (omega arith) (simp append_assoc at e) in
      let q₁ : target_at s 0 (at + length (number_bytes 0)) ≡ found o next = sym (ap (λ (r : Read ℕ). and_then r (λ kind n. target_at s kind n)) n₁.read) ∙ q in
      let t₁ = through (cell_at s (at + length (number_bytes 0))) (λ x n. rest_at s 0 x n) o next q₁ in
      let hd = cell_limited (at + length (number_bytes 0)) d (number_bytes k ++ rest) {w = t₁.value} {next = t₁.mid} n₁.then t₁.was in
      let n₂ = cell_there s (at + length (number_bytes 0)) d (number_bytes k ++ rest) hd n₁.then in
      let at₂ : ℕ = at + length (number_bytes 0) + length (number_bytes d) in
      let q₂ : and_then (constant_at s at₂) (λ x n. found (Constant d x) n) ≡ found o next = sym (ap (λ (r : Read ℕ). and_then r (λ x n. rest_at s 0 x n)) n₂.read) ∙ q₁ in
      let t₂ = through (constant_at s at₂) (λ x n. found (Constant d x) n) o next q₂ in
      (hd, constant_limited at₂ k rest {w = t₂.value} {next = t₂.mid} n₂.then t₂.was)

  cells_accepted : (at kind d a b : ℕ) (rest : List ℕ) {o : Order} {next : ℕ} → 0 < kind → kind < kind_count → drop at s ≡ cells_bytes kind d a b ++ rest → order_at s at ≡ found o next → ThreeCells d a b
  unfolding order_at target_at rest_at last_at
  cells_accepted at kind d a b rest {o} {next} h l e q =
      let n₁ = kind_there s at kind (number_bytes d ++ (number_bytes a ++ (number_bytes b ++ rest))) l (simp append_assoc at e) in
      let at₁ : ℕ = at + length (number_bytes kind) in
      let q₁ : target_at s kind at₁ ≡ found o next = sym (ap (λ (r : Read ℕ). and_then r (λ x n. target_at s x n)) n₁.read) ∙ q in
      let t₁ = through (cell_at s at₁) (λ x n. rest_at s kind x n) o next q₁ in
      let hd = cell_limited at₁ d (number_bytes a ++ (number_bytes b ++ rest)) {w = t₁.value} {next = t₁.mid} n₁.then t₁.was in
      let n₂ = cell_there s at₁ d (number_bytes a ++ (number_bytes b ++ rest)) hd n₁.then in
      let at₂ : ℕ = at₁ + length (number_bytes d) in
      let z : kind ≡ 0 → ⊥ = λ p. let x : ⊥ = omega arith in x in
      let q₂ : and_then (cell_at s at₂) (λ x n. last_at s kind d x n) ≡ found o next =
      sym (ap (λ (r : Read ℕ). and_then r (λ x n. rest_at s kind x n)) n₂.read ∙ simp (ne_eqb kind 0 z)) ∙ q₁ in
      let t₂ = through (cell_at s at₂) (λ x n. last_at s kind d x n) o next q₂ in
      let ha = cell_limited at₂ a (number_bytes b ++ rest) {w = t₂.value} {next = t₂.mid} n₂.then t₂.was in
      let n₃ = cell_there s at₂ a (number_bytes b ++ rest) ha n₂.then in
      let at₃ : ℕ = at₂ + length (number_bytes a) in
      let q₃ : last_at s kind d a at₃ ≡ found o next = sym (ap (λ (r : Read ℕ). and_then r (λ x n. last_at s kind d x n)) n₃.read) ∙ q₂ in
      let t₃ = through (cell_at s at₃) (λ x n. of_kind kind n (cells_orders d a x)) o next q₃ in
      (hd, ha, cell_limited at₃ b rest {w = t₃.value} {next = t₃.mid} n₃.then t₃.was)

  pub accepted_written : (at : ℕ) (o : Order) (rest : List ℕ) {read : Order} {next : ℕ} → drop at s ≡ order_bytes o ++ rest → order_at s at ≡ found read next → WellFormed o
  unfolding order_bytes
  accepted_written at (Constant d k) rest e q = constant_accepted at d k rest e q
  accepted_written at (Sum d a b) rest e q = cells_accepted at 1 d a b rest (omega arith) (omega arith) e q
  accepted_written at (Difference d a b) rest e q = cells_accepted at 2 d a b rest (omega arith) (omega arith) e q
  accepted_written at (Product d a b) rest e q = cells_accepted at 3 d a b rest (omega arith) (omega arith) e q
  accepted_written at (Less d a b) rest e q = cells_accepted at 4 d a b rest (omega arith) (omega arith) e q
  accepted_written at (Equal d a b) rest e q = cells_accepted at 5 d a b rest (omega arith) (omega arith) e q
