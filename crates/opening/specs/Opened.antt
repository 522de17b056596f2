-- What is opened of a sheet that a book's plan has left is the best clearing: its accepted amounts, its flows by rows, and of each pool the
-- signed price, its hundredths and its presence (`opened_outcome`).
use Rattle.std.specs.Prelude.{ℕ, zero, suc, ◌+◌, ◌*◌, ◌≤◌, ◌<◌, ◌≡◌, refl, Bool, true, false, cond, length, take, drop, ℤ, pos, nat_abs, List, [], ◌∷◌, ◌++◌, map}
use Rattle.std.proofs.Common.{ap, ap₂, ◌∙◌, mul-le-mul, drop-cons, drop-drop, take-add, arith}
use Rattle.std.proofs.lemmas.List.{map-append}
use Rattle.std.proofs.Math.Arith.{digits_lt}
use Rattle.std.specs.Int.Signed.{lt_z}
use Rattle.definitions.specs.Limits.{pool_limit, whole_limit, hundredths_limit, greatest_positive, pool_results}
use Rattle.definitions.specs.Arithmetic.{join_to, reading}
use Rattle.definitions.specs.Book.{Book, whole_price, hundredths, in_hundredths}
use Rattle.definitions.specs.Sheet.{first_result, result_count, first_scratch, amount_cell, flow_cell, price_cell}
use Rattle.definitions.specs.PoolPrice.{PoolPrice, missing, present, lower_price, least_price, supplies, pool_price, price_residue, hundredths_residue, presence}
use Rattle.definitions.specs.Machine.{cell}
use Rattle.definitions.specs.Calls.{AcceptedBook, opened_results}
use Rattle.definitions.specs.Outcome.{Outcome, result_of, price_numbers, clearing_results}
use Rattle.laws.specs.AcceptedBook.{Sound, accepted_sound}
use Rattle.residues.specs.Residues.{reads_itself, reading_residue}
use Rattle.opening.specs.Readings.{readings}

-- ---- parts of a sheet, read

-- of two parts, one after the other
both_read : (s : List ℕ) (from j k : ℕ) → readings s from (j + k) ≡ readings s from j ++ readings s (from + j) k
both_read s from j k =
    ap (map reading) (take-add j k (drop from s))
    ∙ map-append reading (take j (drop from s)) (take k (drop j (drop from s)))
    ∙ ap (λ (xs : List ℕ). readings s from j ++ map reading (take k xs)) (drop-drop j from s)

-- of one cell, of two, and of three
one_read : (s : List ℕ) (c : ℕ) → c < length s → readings s c 1 ≡ reading (cell s c) ∷ []
one_read s c h = rw (drop-cons s c 0 h) refl

two_read : (s : List ℕ) (c : ℕ) → c + 1 < length s → readings s c 2 ≡ reading (cell s c) ∷ reading (cell s (c + 1)) ∷ []
two_read s c h = both_read s c 1 1 ∙ ap₂ ◌++◌ (one_read s c (omega arith)) (one_read s (c + 1) h)

three_read : (s : List ℕ) (c : ℕ) → c + 2 < length s → readings s c 3 ≡ reading (cell s c) ∷ reading (cell s (c + 1)) ∷ reading (cell s (c + 2)) ∷ []
three_read s c h = both_read s c 2 1 ∙ ap₂ ◌++◌ (two_read s c (omega arith)) (one_read s (c + 2) h)

-- of k parts of w cells each
parts_read : (s : List ℕ) (from k w : ℕ) (f : ℕ → List ℤ) → ((i : ℕ) → i < k → readings s (from + i * w) w ≡ f i) → readings s from (k * w) ≡ join_to k f
unfolding join_to
parts_read s from zero w f h = let e : 0 * w ≡ 0 = omega arith in rw e refl
parts_read s from (suc k) w f h =
    let e : suc k * w ≡ k * w + w = omega arith in
    rw e
    (both_read s from (k * w) w
    ∙ ap₂ ◌++◌ (parts_read s from k w f (λ i l. h i (omega arith))) (h k (omega arith)))

-- ---- a pool's price is the price of a bid, and so its parts are within their limits

Limited : PoolPrice → Type 0
Limited missing = Unit {0}
Limited (present w h) = (nat_abs w ≤ whole_limit) × (nat_abs h ≤ hundredths_limit)

lower_limited : (r : PoolPrice) (w h : ℤ) → Limited r → Limited (present w h) → Limited (lower_price r w h)
unfolding Limited
lower_limited missing w h k l = l
lower_limited (present v g) w h k l = go (lt_z (in_hundredths w h) (in_hundredths v g))
  where
    go : (t : Bool) → Limited (cond t (present w h) (present v g))
    go true = l
    go false = k

least_limited : (B : Book) → Sound B → (test : ℕ → Bool) (k : ℕ) → k ≤ B.n → Limited (least_price B test k)
unfolding least_price Limited
least_limited B ok test zero l = tt
least_limited B ok test (suc k) l = go (test k) (least_limited B ok test k (omega arith))
  where
    go : (t : Bool) → Limited (least_price B test k) → Limited (cond t (lower_price (least_price B test k) (whole_price B k) (hundredths B k)) (least_price B test k))
    go true h = lower_limited (least_price B test k) (whole_price B k) (hundredths B k) h (ok.whole_size k (omega arith), ok.hundredths_small k (omega arith))
    go false h = h

-- its three cells, read
price_read : (r : PoolPrice) → Limited r → reading (price_residue r) ∷ reading (hundredths_residue r) ∷ reading (presence r) ∷ [] ≡ price_numbers r
unfolding Limited
price_read missing l = refl
price_read (present w h) l =
    ap₂ (λ (x y : ℤ). x ∷ y ∷ pos 1 ∷ [])
    (reading_residue w (let k : nat_abs w ≤ greatest_positive = omega (arith, l.0) in k))
    (reading_residue h (let k : nat_abs h ≤ greatest_positive = omega (arith, l.1) in k))

-- three cells that hold these numbers
three_hold : {x x' y y' z z' : ℕ} → x ≡ x' → y ≡ y' → z ≡ z' → reading x ∷ reading y ∷ reading z ∷ [] ≡ reading x' ∷ reading y' ∷ reading z' ∷ []
three_hold e f g = cc (e, f, g)

-- ---- the results

module _ (B : Book) (accepted : AcceptedBook B) {sealed : List ℕ} (s : List ℕ) (left : Outcome B sealed s) where
  ok : Sound B
  ok = accepted_sound B accepted

  -- every result cell is on the sheet
  on_sheet : (c : ℕ) → c < first_scratch B.n B.m → c < length s
  on_sheet c l =
      let pools : B.m ≤ pool_limit = ok.pools in
      let square : B.m * B.m ≤ pool_limit * pool_limit = mul-le-mul pools pools in
      omega (arith, ok.bids, left.cells)

  -- an amount and a flow are small, so they are read as themselves
  pub amount_reading : (i : ℕ) → i < B.n → reading (cell s (amount_cell B.n B.m i)) ≡ pos ((result_of B s).accepted i)
  amount_reading i l = reads_itself _ (let h = left.best.feasible.amounts i l in let k = ok.size_small i l in omega arith)

  pub flow_reading : (a b : ℕ) → a < B.m → b < B.m → reading (cell s (flow_cell B.n B.m a b)) ≡ pos ((result_of B s).flow a b)
  flow_reading a b l r = reads_itself _ (let h = left.best.feasible.flows a b l r in let k = ok.capacity_small a b l r in omega arith)

  amount_read : (i : ℕ) → i < B.n → readings s (first_result B.n B.m + i * 1) 1 ≡ pos ((result_of B s).accepted i) ∷ []
  amount_read i l =
      let e : first_result B.n B.m + i * 1 ≡ amount_cell B.n B.m i = omega arith in
      rw e
      (one_read s (amount_cell B.n B.m i) (on_sheet _ (omega arith))
      ∙ ap (λ (z : ℤ). z ∷ []) (amount_reading i l))

  abbrev flows : ℕ
  flows = first_result B.n B.m + B.n

  flow_read : (a b : ℕ) → a < B.m → b < B.m → readings s (flows + a * B.m + b * 1) 1 ≡ pos ((result_of B s).flow a b) ∷ []
  flow_read a b l r =
      let e : flows + a * B.m + b * 1 ≡ flow_cell B.n B.m a b = omega arith in
      rw e
      (one_read s (flow_cell B.n B.m a b) (on_sheet _ (omega (arith, digits_lt l r)))
      ∙ ap (λ (z : ℤ). z ∷ []) (flow_reading a b l r))

  row_read : (a : ℕ) → a < B.m → readings s (flows + a * B.m) B.m ≡ join_to B.m (λ b. pos ((result_of B s).flow a b) ∷ [])
  row_read a l =
      let e : B.m ≡ B.m * 1 = omega arith in
      ap (readings s (flows + a * B.m)) e ∙ parts_read s (flows + a * B.m) B.m 1 _ (λ b r. flow_read a b l r)

  abbrev prices : ℕ
  prices = flows + B.m * B.m

  pool_read : (p : ℕ) → p < B.m → readings s (prices + p * pool_results) pool_results ≡ price_numbers (pool_price B (result_of B s) p)
  unfolding pool_price
  pool_read p l =
      let e : prices + p * pool_results ≡ price_cell B.n B.m p = omega arith in
      rw e
      (three_read s (price_cell B.n B.m p) (on_sheet _ (omega arith))
      ∙ three_hold (left.prices p l) (left.hundredths p l) (left.presences p l)
      ∙ price_read _ (least_limited B ok (supplies B (result_of B s) p) B.n (omega arith)))

  pub opened_outcome : opened_results B.n B.m s ≡ clearing_results B (result_of B s)
  unfolding opened_results clearing_results
  opened_outcome =
      let counts : result_count B.n B.m ≡ B.n * 1 + (B.m * B.m + B.m * pool_results) = omega arith in
      let first : ℕ = first_result B.n B.m in
      ap (readings s first) counts
      ∙ both_read s first (B.n * 1) (B.m * B.m + B.m * pool_results)
      ∙ ap₂ ◌++◌ (parts_read s first B.n 1 _ amount_read)
      (ap (λ (from : ℕ). readings s from (B.m * B.m + B.m * pool_results)) (let e : first + B.n * 1 ≡ flows = omega arith in e)
      ∙ both_read s flows (B.m * B.m) (B.m * pool_results)
      ∙ ap₂ ◌++◌ (parts_read s flows B.m B.m _ row_read) (parts_read s prices B.m pool_results _ pool_read))
