-- What the sealed sheet of a sound book holds, cell by cell, and that it is a sheet: every cell is below p (`sealed_is_sheet`).
use Rattle.std.specs.Prelude.{◌≡◌, Bool, ℕ, zero, suc, ◌+◌, ◌-◌, ◌*◌, ◌≤◌, ◌<◌, ◌/◌, ◌%◌, pos, nat_abs, length, get_or, replicate}
use Rattle.std.proofs.Common.{sym, ap, ◌∙◌, arith, mul-le-mul, length-append, get_or-append-add, List, ◌++◌, map, append_assoc}
use Rattle.std.proofs.lemmas.List.{length-map, length-replicate, get_or-replicate}
use Rattle.std.proofs.Math.ListN.{get_or-append, get_or-map, get_or-eq_default}
use Rattle.definitions.specs.Limits.{bid_numbers, cell_count, modulus, greatest_positive}
use Rattle.definitions.specs.Arithmetic.{residue}
use Rattle.definitions.specs.Book.{Book, capacity_entry}
use Rattle.definitions.specs.Sheet.{sealed_sheet, first_result}
use Rattle.definitions.specs.Machine.{cell, IsSheet}
use Rattle.laws.specs.Rows.{row_column}
use Rattle.laws.specs.Tests.{Lt?, less, more, lt?}
use Rattle.laws.specs.AcceptedBook.{Sound}
use Rattle.residues.specs.Residues.{residue_below}

zeros_cell : (k i : ℕ) → get_or (replicate {A = ℕ} k 0) i 0 ≡ 0
zeros_cell k i = go (lt? i k)
  where
    go : {t : Bool} → Lt? i k t → get_or (replicate {A = ℕ} k 0) i 0 ≡ 0
    go (less l) = get_or-replicate k i 0 0 l
    go (more l) = get_or-eq_default (replicate {A = ℕ} k 0) 0 (omega (arith, length-replicate {A = ℕ} k 0))

module _ (B : Book) where
  -- the sheet's first part: the bid table
  abbrev bid_part : List ℕ
  bid_part = map residue B.bids

  -- its second part: the capacity table
  abbrev capacity_part : List ℕ
  capacity_part = map residue B.capacities

  -- the rest: 0
  abbrev zero_part : List ℕ
  zero_part = replicate (cell_count - (length B.bids + length B.capacities)) 0

  parts : sealed_sheet B ≡ bid_part ++ (capacity_part ++ zero_part)
  unfolding sealed_sheet
  parts = append_assoc bid_part capacity_part zero_part

  pub sealed_bid : (k : ℕ) → k < length B.bids → cell (sealed_sheet B) k ≡ residue (get_or B.bids k (pos 0))
  sealed_bid k h =
      ap (λ (l : List ℕ). cell l k) parts
      ∙ get_or-append bid_part (capacity_part ++ zero_part) 0 k (omega (arith, length-map B.bids residue))
      ∙ get_or-map residue B.bids k (pos 0)

  -- behind the bids
  pub sealed_past : (k : ℕ) → cell (sealed_sheet B) (length B.bids + k) ≡ cell (capacity_part ++ zero_part) k
  sealed_past k =
      ap (λ (l : List ℕ). cell l (length B.bids + k)) parts
      ∙ ap (λ (n : ℕ). get_or (bid_part ++ (capacity_part ++ zero_part)) (n + k) 0) (sym (length-map B.bids residue)) ∙ get_or-append-add bid_part (capacity_part ++ zero_part) k 0

  pub sealed_capacity : (k : ℕ) → k < length B.capacities → cell (sealed_sheet B) (length B.bids + k) ≡ residue (get_or B.capacities k (pos 0))
  sealed_capacity k h = sealed_past k ∙ get_or-append capacity_part zero_part 0 k (omega (arith, length-map B.capacities residue)) ∙ get_or-map residue B.capacities k (pos 0)

  pub sealed_rest : (k : ℕ) → cell (sealed_sheet B) (length B.bids + (length B.capacities + k)) ≡ 0
  sealed_rest k =
      sealed_past (length B.capacities + k)
      ∙ ap (λ (n : ℕ). get_or (capacity_part ++ zero_part) (n + k) 0) (sym (length-map B.capacities residue))
      ∙ get_or-append-add capacity_part zero_part k 0
      ∙ zeros_cell (cell_count - (length B.bids + length B.capacities)) k

  module _ (sound : Sound B) where
    pub sealed_length : length (sealed_sheet B) ≡ cell_count
    sealed_length =
        ap length parts
        ∙ length-append bid_part (capacity_part ++ zero_part)
        ∙ omega (
          arith,
          length-map B.bids residue,
          length-map B.capacities residue,
          length-append capacity_part zero_part,
          length-replicate {A = ℕ} (cell_count - (length B.bids + length B.capacities)) 0,
          sound.bid_table,
          sound.capacity_table,
          sound.bids,
          mul-le-mul sound.pools sound.pools,
        )

    -- 0 from the first result on
    pub sealed_zero : (k : ℕ) → first_result B.n B.m ≤ k → cell (sealed_sheet B) k ≡ 0
    sealed_zero k h =
        let e : k ≡ length B.bids + (length B.capacities + (k - (length B.bids + length B.capacities))) = omega (arith, sound.bid_table, sound.capacity_table) in
        ap (λ (c : ℕ). cell (sealed_sheet B) c) e ∙ sealed_rest (k - (length B.bids + length B.capacities))

    -- a number of the bid table: one of its bid's four
    bid_size : (i j : ℕ) → i < B.n → j < bid_numbers → nat_abs (get_or B.bids (bid_numbers * i + j) (pos 0)) ≤ greatest_positive
    bid_size i zero l h =
        let e : bid_numbers * i + 0 ≡ bid_numbers * i = omega arith in
        rw e (omega (arith, ap nat_abs (sound.pool_is i l), sound.pool_index_lem i l, sound.pools))
    bid_size i (suc zero) l h = omega (arith, sound.whole_size i l)
    bid_size i (suc (suc zero)) l h = omega (arith, sound.size_small i l)
    bid_size i (suc (suc (suc zero))) l h = omega (arith, sound.hundredths_small i l)
    bid_size i (suc (suc (suc (suc j)))) l h = absurd (omega arith)

    bid_below : (c : ℕ) → c < bid_numbers * B.n → cell (sealed_sheet B) c < modulus
    bid_below c l =
        let e : bid_numbers * (c / bid_numbers) + c % bid_numbers ≡ c = omega arith in
        let h : nat_abs (get_or B.bids c (pos 0)) ≤ greatest_positive = rw e at (bid_size (c / bid_numbers) (c % bid_numbers) (omega arith) (omega arith)) in
        omega (arith, sealed_bid c (omega (arith, sound.bid_table)), residue_below (get_or B.bids c (pos 0)) h)

    capacity_below : (k : ℕ) → k < B.m * B.m → cell (sealed_sheet B) (length B.bids + k) < modulus
    capacity_below k l =
        let found = row_column B.m k l in
        let h : nat_abs (get_or B.capacities k (pos 0)) ≤ greatest_positive
        = rw found.place at (let z : nat_abs (capacity_entry B (k / B.m) (k % B.m)) ≤ greatest_positive = omega (arith, sound.capacity_small (k / B.m) (k % B.m) found.row found.column) in z) in
        omega (arith, sealed_capacity k (omega (arith, sound.capacity_table)), residue_below (get_or B.capacities k (pos 0)) h)

    every_below : (c : ℕ) → cell (sealed_sheet B) c < modulus
    every_below c = go (lt? c (bid_numbers * B.n)) (lt? c (first_result B.n B.m))
      where
        go : {s t : Bool} → Lt? c (bid_numbers * B.n) s → Lt? c (first_result B.n B.m) t → cell (sealed_sheet B) c < modulus
        go (less l) h = bid_below c l
        go (more l) (less h) =
            let e : length B.bids + (c - bid_numbers * B.n) ≡ c = omega (arith, sound.bid_table) in
            rw e at (capacity_below (c - bid_numbers * B.n) (omega arith))
        go (more l) (more h) = omega (arith, sealed_zero c h)

    pub sealed_is_sheet : IsSheet (sealed_sheet B)
    sealed_is_sheet = record { cells = sealed_length; below = every_below }
