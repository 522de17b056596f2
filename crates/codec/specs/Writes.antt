-- What a caller of write_order concludes: with room and without, and that no byte written means no room (none_written).
use Rattle.std.specs.Prelude.{ℕ, ◌+◌, ◌<◌, ◌≤◌, ◌≡◌, List, length}
use Rattle.std.proofs.Common.{arith, le-leb}
use Rattle.std.proofs.Math.Decide.{dec_lt}
use Rattle.std.proofs.lemmas.Bool.{lt-leb}
use Rattle.definitions.specs.declared.Order.{Order}
use Rattle.definitions.specs.Bytes.{order_bytes}
use Rattle.laws.specs.Write.{written}
use Rattle.codec.specs.Written.{written_size, written_bytes}
use Rattle.codec.specs.OrderBytes.{at_least_three}

module _ (out : List ℕ) (at : ℕ) (order : Order) where
  pub size_with_room : at + length (order_bytes order) ≤ length out → written_size out at order ≡ length (order_bytes order)
  unfolding written_size
  size_with_room h = simp (le-leb _ _ h)

  pub bytes_with_room : at + length (order_bytes order) ≤ length out → written_bytes out at order ≡ written out at (order_bytes order)
  unfolding written_bytes
  bytes_with_room h = simp (le-leb _ _ h)

  pub size_without_room : length out < at + length (order_bytes order) → written_size out at order ≡ 0
  unfolding written_size
  size_without_room h = simp (lt-leb _ _ h)

  pub bytes_without_room : length out < at + length (order_bytes order) → written_bytes out at order ≡ out
  unfolding written_bytes
  bytes_without_room h = simp (lt-leb _ _ h)

  -- an order has three bytes at least, so that no byte written means no room
  pub none_written : written_size out at order ≡ 0 → length out < at + length (order_bytes order)
  none_written e = elim (dec_lt (length out) (at + length (order_bytes order))) [
    | yes h ↦ h
    | no h ↦ absurd (omega (arith, at_least_three order, size_with_room (omega arith)))
  ]
