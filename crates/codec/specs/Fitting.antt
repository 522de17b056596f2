-- Which of some orders fit in a number of bytes: one order at a time, and that one of the plan's always does in 8 (`some_fits`).
use Rattle.std.specs.Prelude.{ℕ, suc, ◌+◌, ◌-◌, ◌*◌, ◌≤◌, ◌<◌, ◌≡◌, refl, Bool, true, false, cond, List, [], ◌∷◌, ◌++◌, leb, length, get_or, take, drop}
use Rattle.std.proofs.Common.{sym, ap, ◌∙◌, append-nil, append_assoc, arith, length-append, take-append-drop, drop-cons, take-suc, le-leb}
use Rattle.std.proofs.lemmas.Bool.{lt-leb}
use Rattle.definitions.specs.declared.Order.{Order}
use Rattle.definitions.specs.Bytes.{order_bytes, orders_bytes}
use Rattle.definitions.specs.Machine.{AllWellFormed}
use Rattle.definitions.specs.Plan.{fitting, longest_order}
use Rattle.codec.specs.OrderBytes.{at_most_eight}

-- ---- the bytes of orders one after another

pub bytes_of_both : (xs ys : List Order) → orders_bytes (xs ++ ys) ≡ orders_bytes xs ++ orders_bytes ys
unfolding orders_bytes
bytes_of_both [] ys = refl
bytes_of_both (x ∷ xs) ys = ap (λ (bytes : List ℕ). order_bytes x ++ bytes) (bytes_of_both xs ys) ∙ sym (append_assoc (order_bytes x) (orders_bytes xs) (orders_bytes ys))

pub bytes_of_one : (o : Order) → orders_bytes (o ∷ []) ≡ order_bytes o
unfolding orders_bytes
bytes_of_one o = append-nil (order_bytes o)

pub bytes_of_none : orders_bytes [] ≡ []
unfolding orders_bytes
bytes_of_none = refl

-- one order more
pub bytes_of_more : (os : List Order) (k : ℕ) (d : Order) → k < length os → orders_bytes (take (suc k) os) ≡ orders_bytes (take k os) ++ order_bytes (get_or os k d)
bytes_of_more os k d h =
    ap orders_bytes (take-suc os k d h)
    ∙ bytes_of_both (take k os) (get_or os k d ∷ [])
    ∙ ap (λ (bytes : List ℕ). orders_bytes (take k os) ++ bytes) (bytes_of_one (get_or os k d))

-- those of a first part and of the rest
pub bytes_in_parts : (k : ℕ) (os : List Order) → length (orders_bytes (take k os)) + length (orders_bytes (drop k os)) ≡ length (orders_bytes os)
bytes_in_parts k os =
    sym (length-append (orders_bytes (take k os)) (orders_bytes (drop k os)))
    ∙ ap length (sym (bytes_of_both (take k os) (drop k os)))
    ∙ ap (λ (xs : List Order). length (orders_bytes xs)) (take-append-drop k os)

-- 8 bytes each at most
pub bytes_at_most : (os : List Order) → AllWellFormed os → length (orders_bytes os) ≤ longest_order * length os
unfolding orders_bytes
bytes_at_most [] w = omega arith
bytes_at_most (o ∷ os) w = omega (arith, length-append (order_bytes o) (orders_bytes os), at_most_eight o w.0, bytes_at_most os w.1)

-- ---- how many fit

pub fits_none : (room : ℕ) → fitting [] room ≡ 0
unfolding fitting
fits_none room = refl

module _ (o : Order) (os : List Order) (room : ℕ) where
  pub fits_one : length (order_bytes o) ≤ room → fitting (o ∷ os) room ≡ suc (fitting os (room - length (order_bytes o)))
  unfolding fitting
  fits_one h = simp (le-leb _ _ h)

  pub fits_no_more : room < length (order_bytes o) → fitting (o ∷ os) room ≡ 0
  unfolding fitting
  fits_no_more h = simp (lt-leb _ _ h)

pub fits_at_most : (os : List Order) (room : ℕ) → fitting os room ≤ length os
unfolding fitting
fits_at_most [] room = omega arith
fits_at_most (o ∷ os) room = go (leb (length (order_bytes o)) room) (fits_at_most os (room - length (order_bytes o)))
  where
    go : (t : Bool) → fitting os (room - length (order_bytes o)) ≤ length os → cond t (suc (fitting os (room - length (order_bytes o)))) 0 ≤ suc (length os)
    go true h = omega arith
    go false h = omega arith

-- an order that has 8 bytes at most fits in 8
pub some_fits : (os : List Order) (at : ℕ) (d : Order) (room : ℕ) → at < length os → length (order_bytes (get_or os at d)) ≤ longest_order → longest_order ≤ room → 0 < fitting (drop at os) room
some_fits os at d room h short roomy =
    let e : fitting (drop at os) room ≡ suc (fitting (drop (suc at) os) (room - length (order_bytes (get_or os at d)))) =
    ap (λ (rest : List Order). fitting rest room) (drop-cons os at d h)
    ∙ fits_one (get_or os at d) (drop (suc at) os) room (omega arith) in
    omega arith
