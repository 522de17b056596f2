-- The machine's orders and their bytes on single cases, by computation.
use Rattle.std.proofs.Common.{◌≡◌, refl, ℕ, List, [], ◌∷◌, length, replicate}
use Rattle.definitions.specs.declared.Order.TheVariants.{Constant, Sum, Difference, Product, Less, Equal}
use Rattle.definitions.specs.Limits.{cell_count}
use Rattle.definitions.specs.Machine.{times, less_than, step_of, run_of}
use Rattle.definitions.specs.Answers.{refuse, none}
use Rattle.definitions.specs.Bytes.{groups, number_bytes, numbers_of, order_bytes, fault, found, read_groups, number_at, kind_at, cell_at, constant_at, last_at, rest_at, target_at, order_at, parse, parse_from}
use Rattle.definitions.specs.Calls.{run_refusal, run_sheet, run_count, cells_refusal, first_from}

-- products below and above p; the comparison at the edge of the sign
products : times 32768 65535 ∷ times 46340 46341 ∷ times 65536 65536 ∷ [] ≡ 2147450880 ∷ 2147441940 ∷ 2 ∷ []
products = refl

signs : less_than 0 1073741824 ∷ less_than 1073741823 1073741824 ∷ less_than 1073741824 2147483646 ∷ less_than 1073741823 1073741823 ∷ [] ≡ 0 ∷ 0 ∷ 1 ∷ 0 ∷ []
signs = refl

-- each kind, on two cells; a, b and d may coincide
kinds :
    step_of (3 ∷ 5 ∷ 7 ∷ []) (Constant 0 9)
    ∷ step_of (3 ∷ 5 ∷ 7 ∷ []) (Sum 2 0 1)
    ∷ step_of (3 ∷ 5 ∷ 7 ∷ []) (Difference 2 0 1)
    ∷ step_of (3 ∷ 5 ∷ 7 ∷ []) (Product 0 0 0)
    ∷ step_of (3 ∷ 5 ∷ 7 ∷ []) (Less 1 0 1)
    ∷ step_of (3 ∷ 5 ∷ 7 ∷ []) (Equal 1 0 1)
    ∷ []
    ≡ (9 ∷ 5 ∷ 7 ∷ []) ∷ (3 ∷ 5 ∷ 8 ∷ []) ∷ (3 ∷ 5 ∷ 2147483645 ∷ []) ∷ (9 ∷ 5 ∷ 7 ∷ []) ∷ (3 ∷ 1 ∷ 7 ∷ []) ∷ (3 ∷ 0 ∷ 7 ∷ []) ∷ []
kinds = refl

-- "An order begins with its kind": the bytes of each case, and its order read back
kind_numbers :
    numbers_of (Constant 9 8) ∷ numbers_of (Sum 9 8 7) ∷ numbers_of (Difference 9 8 7) ∷ numbers_of (Product 9 8 7) ∷ numbers_of (Less 9 8 7) ∷ numbers_of (Equal 9 8 7) ∷ []
    ≡ (0 ∷ 9 ∷ 8 ∷ []) ∷ (1 ∷ 9 ∷ 8 ∷ 7 ∷ []) ∷ (2 ∷ 9 ∷ 8 ∷ 7 ∷ []) ∷ (3 ∷ 9 ∷ 8 ∷ 7 ∷ []) ∷ (4 ∷ 9 ∷ 8 ∷ 7 ∷ []) ∷ (5 ∷ 9 ∷ 8 ∷ 7 ∷ []) ∷ []
kind_numbers = refl

kinds_read :
    order_at (order_bytes (Constant 9 8)) 0
    ∷ order_at (order_bytes (Sum 9 8 7)) 0
    ∷ order_at (order_bytes (Difference 9 8 7)) 0
    ∷ order_at (order_bytes (Product 9 8 7)) 0
    ∷ order_at (order_bytes (Less 9 8 7)) 0
    ∷ order_at (order_bytes (Equal 9 8 7)) 0
    ∷ []
    ≡ found (Constant 9 8) 3 ∷ found (Sum 9 8 7) 4 ∷ found (Difference 9 8 7) 4 ∷ found (Product 9 8 7) 4 ∷ found (Less 9 8 7) 4 ∷ found (Equal 9 8 7) 4 ∷ []
unfolding order_bytes number_bytes groups order_at target_at rest_at last_at kind_at cell_at constant_at number_at read_groups
kinds_read = refl

-- reading: an order at an offset; 9 after no byte and after four; 11 after five, for a longer form, and for 2^32; a lone kind 6 is 10, in a longer form 11;
-- 12 for a cell and a constant just beyond
readings :
    order_at (7 ∷ 0 ∷ 172 ∷ 2 ∷ 254 ∷ 255 ∷ 255 ∷ 255 ∷ 7 ∷ 9 ∷ []) 1
    ∷ order_at (4 ∷ 1 ∷ 2 ∷ 3 ∷ []) 0
    ∷ order_at [] 0
    ∷ order_at (0 ∷ 1 ∷ 255 ∷ 255 ∷ 255 ∷ 255 ∷ []) 0
    ∷ order_at (0 ∷ 1 ∷ 255 ∷ 255 ∷ 255 ∷ 255 ∷ 255 ∷ []) 0
    ∷ order_at (134 ∷ 0 ∷ []) 0
    ∷ order_at (0 ∷ 1 ∷ 128 ∷ 128 ∷ 128 ∷ 128 ∷ 16 ∷ []) 0
    ∷ order_at (6 ∷ []) 0
    ∷ order_at (1 ∷ 128 ∷ 32 ∷ []) 0
    ∷ order_at (0 ∷ 1 ∷ 255 ∷ 255 ∷ 255 ∷ 255 ∷ 7 ∷ []) 0
    ∷ []
    ≡ found (Constant 300 2147483646) 9 ∷ found (Less 1 2 3) 4 ∷ fault 9 ∷ fault 9 ∷ fault 11 ∷ fault 11 ∷ fault 11 ∷ fault 10 ∷ fault 12 ∷ fault 12 ∷ []
unfolding order_at target_at rest_at last_at kind_at cell_at constant_at number_at read_groups
readings = refl

-- all bytes: none is a run of no orders; the place is that of the order's first byte
parsed : parse [] ∷ parse (0 ∷ 1 ∷ 5 ∷ 1 ∷ 2 ∷ 3 ∷ 128 ∷ []) ∷ []
    ≡ record { orders = []; refusal = none } ∷ record { orders = Constant 1 5 ∷ []; refusal = refuse 9 3 } ∷ []
unfolding parse parse_from order_at target_at rest_at last_at kind_at cell_at constant_at number_at read_groups
parsed = refl

-- the runner: 3 before 15 before the bytes
runs : run_refusal (2147483647 ∷ []) (6 ∷ []) ∷ run_refusal (2147483647 ∷ replicate 4095 0) (6 ∷ []) ∷ []
    ≡ refuse 3 0 ∷ refuse 15 0 ∷ []
unfolding run_refusal cells_refusal first_from
runs = refl

-- on every sheet: two orders run; bytes of which the second order is refused run none of them; no bytes are a run of no orders
module _ (s : List ℕ) (cells : length s ≡ cell_count) (residues : cells_refusal s ≡ none) where
  ran : run_sheet s (0 ∷ 1 ∷ 5 ∷ 1 ∷ 0 ∷ 1 ∷ 1 ∷ []) ∷ run_sheet s (0 ∷ 1 ∷ 5 ∷ 6 ∷ []) ∷ run_sheet s [] ∷ []
      ≡ run_of (Constant 1 5 ∷ Sum 0 1 1 ∷ []) s ∷ s ∷ s ∷ []
  unfolding run_sheet run_refusal run_of parse parse_from order_at target_at rest_at last_at kind_at cell_at constant_at number_at read_groups
  ran = rw (cells, residues) refl

  counted : run_count s (0 ∷ 1 ∷ 5 ∷ 1 ∷ 0 ∷ 1 ∷ 1 ∷ []) ∷ run_count s (0 ∷ 1 ∷ 5 ∷ 6 ∷ []) ∷ run_count s [] ∷ [] ≡ 2 ∷ 0 ∷ 0 ∷ []
  unfolding run_count run_refusal parse parse_from order_at target_at rest_at last_at kind_at cell_at constant_at number_at read_groups
  counted = rw (cells, residues) refl
