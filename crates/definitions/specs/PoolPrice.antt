-- A pool's price (document 02, request 4, in the place of document 01's): the least limit price at which one more unit could be had there; in two parts
-- by request 5.
use Rattle.std.specs.Prelude.{ℕ, zero, suc, Bool, cond, ◌&&◌, ◌||◌, ltb, eqb, ℤ}
use Rattle.std.specs.Int.Signed.{lt_z}
use Rattle.definitions.specs.Arithmetic.{any_to, residue}
use Rattle.definitions.specs.Book.{Book, whole_price, hundredths, in_hundredths, size, in_pool, capacity}
use Rattle.definitions.specs.Clearing.{Clearing, used}

-- "one step goes from a to b where line a to b is not full or line b to a carries something"
abbrev pub one_step : Book → (ℕ → ℕ → ℕ) → (a b : ℕ) → Bool
one_step B flow a b = ltb (flow a b) (capacity B a b) || ltb 0 (flow b a)

-- Pool q reaches pool p by a way over the first k pools only; "a pool reaches itself". A way over one pool more comes to that pool and goes on from it.
unfoldable pub reaches_over : Book → (ℕ → ℕ → ℕ) → (k q p : ℕ) → Bool
reaches_over B flow zero q p = eqb q p || one_step B flow q p
reaches_over B flow (suc k) q p = reaches_over B flow k q p || (reaches_over B flow k q k && reaches_over B flow k k p)

-- pool p "can be reached" from pool q, by steps of any number
unfoldable pub reaches : Book → (ℕ → ℕ → ℕ) → (q p : ℕ) → Bool
reaches B flow q p = reaches_over B flow B.m q p

-- bid i is among the "bids with used amount below their size, in a pool from which the pool in question can be reached"
abbrev pub supplies : Book → Clearing → (p i : ℕ) → Bool
supplies B c p i = ltb (used B c.accepted i) (size B i) && any_to B.m (λ q. in_pool B q i && reaches B c.flow q p)

-- A pool's price in its two parts (request 5), or that it has none
pub data PoolPrice : Type 0 where
  missing : PoolPrice
  present : (whole hundredths : ℤ) → PoolPrice

-- the lower of a price, if there is one, and another
abbrev pub lower_price : PoolPrice → (whole hundredths : ℤ) → PoolPrice
lower_price missing w h = present w h
lower_price (present v g) w h = cond (lt_z (in_hundredths w h) (in_hundredths v g)) (present w h) (present v g)

-- the least limit price among the first k bids that pass a test
unfoldable pub least_price : Book → (ℕ → Bool) → (k : ℕ) → PoolPrice
least_price B test zero = missing
least_price B test (suc k) =
    cond (test k) (lower_price (least_price B test k) (whole_price B k) (hundredths B k)) (least_price B test k)

-- "It is the least limit price among bids with used amount below their size, in a pool from which the pool in question can be reached .. With no
-- such bid the price is missing."
unfoldable pub pool_price : Book → Clearing → (p : ℕ) → PoolPrice
pool_price B c p = least_price B (supplies B c p) B.n

-- its three cells, "(price, hundredths, presence; all 0 if missing)": the whole part of the price
abbrev pub price_residue : PoolPrice → ℕ
price_residue missing = 0
price_residue (present w h) = residue w

-- its hundredths
abbrev pub hundredths_residue : PoolPrice → ℕ
hundredths_residue missing = 0
hundredths_residue (present w h) = residue h

-- "a presence cell (1 present, 0 missing)"
abbrev pub presence : PoolPrice → ℕ
presence missing = 0
presence (present w h) = 1
