-- What the loop of `write_from` keeps while it fills a slice, order by order: it holds at first (`begins`), after each order (`goes_on`), and at the
-- end is the contract (`ends`).
use Rattle.std.proofs.Common.{ℕ, suc, ◌+◌, ◌-◌, ◌≤◌, ◌<◌, ◌≡◌, refl, sym, ap, ap₂, ◌∙◌, List, ◌∷◌, ◌++◌, arith, add-one, length, get_or, take, drop, length-append, length-drop, drop-cons, drop_of_length-le, drop-drop, get_or-drop}
use Rattle.definitions.specs.declared.Order.{Order}
use Rattle.definitions.specs.declared.Order.TheVariants.{Constant}
use Rattle.definitions.specs.Bytes.{order_bytes, orders_bytes}
use Rattle.definitions.specs.Plan.{Plan, fitting, over, orders_written, bytes_written, written_counts}
use Rattle.laws.specs.Write.{written, behind}
use Rattle.plan.specs.Phased.{Has}
use Rattle.codec.specs.Fitting.{bytes_of_none, bytes_of_more, fits_none, fits_one, fits_no_more}

module _ (P : Plan) (n m from : ℕ) where
  -- the plan's orders
  abbrev whole : List Order
  whole = P n m

  -- those from a position on
  abbrev rest : List Order
  rest = drop from whole

  -- so many of them stand before a position
  abbrev before : ℕ → List Order
  before next = take (next - from) rest

  -- the bytes of the orders before position next are written, and each of them fits
  pub record Filled (old out : List ℕ) (next bytes : ℕ) : Type 0 where
    pub since : from ≤ next
    pub long : length out ≡ length old
    pub room : bytes ≤ length old
    pub count : fitting rest (length old) ≡ (next - from) + fitting (drop next whole) (length old - bytes)
    pub size : length (orders_bytes (before next)) ≡ bytes
    pub slice : out ≡ orders_bytes (before next) ++ drop bytes old

  pub begins : (old : List ℕ) → Filled old old from 0
  begins old =
      let none : from - from ≡ 0 = omega arith in
      let no_bytes : orders_bytes (before from) ≡ orders_bytes (take 0 rest) = rw none in
      let all : length old ≡ length old - 0 = omega arith in
      record {
        since = omega arith;
        long = refl;
        room = omega arith;
        count = omega (arith, ap (fitting rest) all);
        size = ap length (no_bytes ∙ bytes_of_none);
        slice = sym (ap (λ (xs : List ℕ). xs ++ old) (no_bytes ∙ bytes_of_none));
      }

  module _ (old out : List ℕ) (next bytes : ℕ) (filled : Filled old out next bytes) where
    -- the order at the position, if its bytes have room
    pub goes_on : (o : Order) (out' : List ℕ) (bytes' : ℕ) → Has whole next o → bytes + length (order_bytes o) ≤ length old
        → out' ≡ written out bytes (order_bytes o) → bytes' ≡ bytes + length (order_bytes o) → Filled old out' (next + 1) bytes'
    goes_on o out' bytes' there h e q =
        let d : Order = Constant 0 0 in
        let place : from + (next - from) ≡ next = omega (arith, filled.since) in
        let more : next + 1 - from ≡ suc (next - from) = omega (arith, filled.since) in
        let is-order : get_or rest (next - from) d ≡ o =
        get_or-drop from whole (next - from) d ∙ ap (λ (k : ℕ). get_or whole k d) place ∙ there.is d in
        let after : drop next whole ≡ o ∷ drop (suc next) whole =
        drop-cons whole next d there.inside ∙ ap (λ (x : Order). x ∷ drop (suc next) whole) (there.is d) in
        let all : orders_bytes (before (next + 1)) ≡ orders_bytes (before next) ++ order_bytes o =
        ap (λ (k : ℕ). orders_bytes (take k rest)) more
        ∙ bytes_of_more rest (next - from) d (omega (arith, there.inside, length-drop from whole, filled.since))
        ∙ ap (λ (x : Order). orders_bytes (before next) ++ order_bytes x) is-order in
        let size : length (orders_bytes (before (next + 1))) ≡ bytes' =
        ap length all ∙ length-append (orders_bytes (before next)) (order_bytes o)
        ∙ (let a : length (orders_bytes (before next)) + length (order_bytes o) ≡ bytes' = omega (arith, filled.size) in a) in
        let slice : out' ≡ orders_bytes (before (next + 1)) ++ drop bytes' old =
        e
        ∙ ap (λ (xs : List ℕ). written xs bytes (order_bytes o)) filled.slice
        ∙ behind (orders_bytes (before next)) (drop bytes old) bytes (order_bytes o) filled.size
        ∙ ap₂ (λ (xs : List ℕ) (ys : List ℕ). xs ++ ys) (sym all)
        (drop-drop (length (order_bytes o)) bytes old ∙ ap (λ (k : ℕ). drop k old) (sym q)) in
        let long : length out' ≡ length old =
        ap length slice
        ∙ length-append (orders_bytes (before (next + 1))) (drop bytes' old)
        ∙ (let a : length (orders_bytes (before (next + 1))) + length (drop bytes' old) ≡ length old
        = omega (arith, length-drop bytes' old) in a) in
        let one-fits : fitting (drop next whole) (length old - bytes) ≡ suc (fitting (drop (next + 1) whole) (length old - bytes')) =
        ap (λ (os : List Order). fitting os (length old - bytes)) after
        ∙ fits_one o (drop (suc next) whole) (length old - bytes) (omega arith)
        ∙ ap suc
        (ap₂ fitting
        (ap (λ (k : ℕ). drop k whole) (sym (add-one next)))
        (let a : length old - bytes - length (order_bytes o) ≡ length old - bytes' = omega arith in a)) in
        record {
          since = omega (arith, filled.since);
          long = long;
          room = omega arith;
          count = omega (arith, filled.count, one-fits, more);
          size = size;
          slice = slice;
        }

    -- no order fits: the plan has ended, or there is no room for the next
    pub at_end : length whole ≤ next → fitting (drop next whole) (length old - bytes) ≡ 0
    at_end h = ap (λ (os : List Order). fitting os (length old - bytes)) (drop_of_length-le whole h) ∙ fits_none (length old - bytes)

    pub no_room : (o : Order) → Has whole next o → length out < bytes + length (order_bytes o) → fitting (drop next whole) (length old - bytes) ≡ 0
    no_room o there h =
        ap (λ (os : List Order). fitting os (length old - bytes))
        (drop-cons whole next (Constant 0 0) there.inside ∙ ap (λ (x : Order). x ∷ drop (suc next) whole) (there.is (Constant 0 0)))
        ∙ fits_no_more o (drop (suc next) whole) (length old - bytes) (omega (arith, filled.long, filled.room))

    -- then the contract holds
    pub ends : fitting (drop next whole) (length old - bytes) ≡ 0
        → (record { bytes = bytes; orders = next - from; next = next } ≡ written_counts P n m from (length old))
        × (out ≡ over (bytes_written P n m from (length old)) old)
    unfolding written_counts bytes_written orders_written
    ends e =
        let all : fitting rest (length old) ≡ next - from = omega (arith, filled.count) in
        let last : from + (next - from) ≡ next = omega (arith, filled.since) in
        let size : length (orders_bytes (take (fitting rest (length old)) rest)) ≡ bytes
        = ap (λ (k : ℕ). length (orders_bytes (take k rest))) all ∙ filled.size in (
          rw (size, all, last) refl,
          filled.slice ∙ ap₂ (λ (xs : List ℕ) (k : ℕ). xs ++ drop k old) (ap (λ (k : ℕ). orders_bytes (take k rest)) (sym all)) (sym size),
        )
