-- What is written in the tail of some bytes, one run behind another, and an order's bytes by its numbers.
use Rattle.std.proofs.Common.{ℕ, ◌-◌, ◌≤◌, ◌≡◌, refl, sym, ap, ◌∙◌, cond, eqb, List, [], ◌∷◌, ◌++◌, append-nil, append_assoc, arith, length, drop, length-append, length-drop, drop_of_length-le, drop-drop, eq-eqb, ne_eqb}
use Rattle.std.proofs.lemmas.Slice.{between_to_end}
use borrow.Rule.Slice.PartMut.{put_mid, mid_of, mid_len}
use Rattle.definitions.specs.declared.Order.{Order}
use Rattle.definitions.specs.declared.Order.TheVariants.{Constant, Sum, Difference, Product, Less, Equal}
use Rattle.definitions.specs.declared.Parts.{Parts}
use Rattle.definitions.specs.Answers.{parts_of}
use Rattle.definitions.specs.Bytes.{number_bytes, numbers_bytes, order_bytes}
use Rattle.definitions.specs.Plan.{over}
use Rattle.laws.specs.Write.{written, behind}

-- ---- the tail of some bytes from an offset on

-- what is written over its head
pub tail_written : (out tail : List ℕ) (at : ℕ) (xs : List ℕ) → tail ≡ over xs (mid_of at (length out - at) out) → put_mid at (length out - at) out tail ≡ written out at xs
tail_written out tail at xs e =
    let rest : over xs (mid_of at (length out - at) out) ≡ over xs (drop at out) = ap (over xs) (between_to_end out at (length out) (omega arith)) in
    let behind_it : drop (length out - at) (drop at out) ≡ [] = drop_of_length-le (drop at out) (omega (arith, length-drop at out)) in
    rw (e ∙ rest, behind_it, append-nil, drop-drop, append_assoc) refl

module _ (out out₁ : List ℕ) (size : ℕ) (xs ys : List ℕ) (e : size ≡ length xs) (q : out₁ ≡ over xs out) where
  -- the first run leaves room for the second
  pub room_behind : length (xs ++ ys) ≤ length out → length ys ≤ length (mid_of size (length out₁ - size) out₁)
  room_behind h =
      omega (arith, mid_len size (length out₁) out₁ (omega arith), ap length q, length-append xs (drop (length xs) out), length-drop (length xs) out, length-append xs ys)

  -- both are one
  pub both : (tail : List ℕ) → tail ≡ over ys (mid_of size (length out₁ - size) out₁) → put_mid size (length out₁ - size) out₁ tail ≡ over (xs ++ ys) out
  both tail p =
      tail_written out₁ tail size ys p
      ∙ ap (λ (l : List ℕ). written l size ys) q
      ∙ behind xs (drop (length xs) out) size ys (sym e)
      ∙ rw (drop-drop, length-append) refl

-- ---- an order by its numbers

abbrev pub head_bytes : Parts → List ℕ
head_bytes n = number_bytes n.kind ++ number_bytes n.d

abbrev pub parts_bytes : Parts → List ℕ
parts_bytes n = head_bytes n ++ cond (eqb n.kind 0) (number_bytes n.k) (number_bytes n.a ++ number_bytes n.b)

cells : (kind d a b : ℕ) → numbers_bytes (kind ∷ d ∷ a ∷ b ∷ []) ≡ (number_bytes kind ++ number_bytes d) ++ (number_bytes a ++ number_bytes b)
cells kind d a b =
    ap (λ (l : List ℕ). number_bytes kind ++ (number_bytes d ++ (number_bytes a ++ l))) (append-nil (number_bytes b))
    ∙ sym (append_assoc (number_bytes kind) (number_bytes d) (number_bytes a ++ number_bytes b))

pub bytes_parts : (o : Order) → order_bytes o ≡ parts_bytes (parts_of o)
unfolding order_bytes
bytes_parts (Constant d k) = ap (λ (l : List ℕ). number_bytes 0 ++ (number_bytes d ++ l)) (append-nil (number_bytes k)) ∙ sym (append_assoc (number_bytes 0) (number_bytes d) (number_bytes k))
bytes_parts (Sum d a b) = cells 1 d a b
bytes_parts (Difference d a b) = cells 2 d a b
bytes_parts (Product d a b) = cells 3 d a b
bytes_parts (Less d a b) = cells 4 d a b
bytes_parts (Equal d a b) = cells 5 d a b

module _ (o : Order) (p : Parts) (e : p ≡ parts_of o) where
  -- for any kind
  pub whole_bytes : order_bytes o ≡ parts_bytes p
  whole_bytes = bytes_parts o ∙ ap parts_bytes (sym e)

  -- for kind 0
  pub constant_bytes : p.kind ≡ 0 → order_bytes o ≡ head_bytes p ++ number_bytes p.k
  constant_bytes h = whole_bytes ∙ simp (eq-eqb _ _ h)

  -- for kinds 1 to 5
  pub cells_bytes : (p.kind ≡ 0 → ⊥) → order_bytes o ≡ head_bytes p ++ (number_bytes p.a ++ number_bytes p.b)
  cells_bytes h = whole_bytes ∙ simp (ne_eqb _ _ h)
