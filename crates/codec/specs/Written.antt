-- What writing an order at an offset of some bytes gives and leaves.
use Rattle.std.specs.Prelude.{ℕ, ◌+◌, Bool, cond, List, leb, length, Some, None}
use Rattle.std.specs.declared.option.Option.{Option}
use Rattle.definitions.specs.declared.Order.{Order}
use Rattle.definitions.specs.Bytes.{order_bytes}
use Rattle.laws.specs.Write.{written}

-- the order's bytes have room from an offset on
abbrev pub has_room : (out : List ℕ) (at : ℕ) → Order → Bool
has_room out at order = leb (at + length (order_bytes order)) (length out)

-- how many bytes a call says that it has written: none where it has no room
abbrev pub size_answer : Option ℕ → ℕ
size_answer (Some size) = size
size_answer None = 0

-- how many bytes are written
unfoldable pub written_size : (out : List ℕ) (at : ℕ) → Order → ℕ
written_size out at order = cond (has_room out at order) (length (order_bytes order)) 0

-- the bytes after that
unfoldable pub written_bytes : (out : List ℕ) (at : ℕ) → Order → List ℕ
written_bytes out at order = cond (has_room out at order) (written out at (order_bytes order)) out
