-- Lines as a square table, by rows: line a × m + c goes from pool a to pool c.
use Rattle.std.specs.Prelude.{◌≡◌, refl, Bool, ℕ, zero, suc, ◌+◌, ◌*◌, ◌<◌, ◌/◌, ◌%◌, eqb}
use Rattle.std.proofs.Common.{sym, ap, ◌∙◌, arith, suc-mul, add-zero, add-suc, zero-mul}
use Rattle.std.proofs.Math.Arith.{digits_div, digits_mod, digits_lt}
use Rattle.definitions.specs.Arithmetic.{on, sum_to}
use Rattle.laws.specs.Rows.{row_column}
use Rattle.laws.specs.Sum.{sum_ext, sum_one}
use Rattle.theory.specs.Network.{Network, SoundNetwork}
use Rattle.theory.specs.Balance.{only, arriving, departing}
use Rattle.theory.specs.Slacks.{line_flow}
use Rattle.theory.specs.Flows.{WithinCuts, never_both}
use Rattle.theory.specs.Choices.{on_sum}

-- n bids, and a line from each of m pools to each, by rows
abbrev pub grid : (n m : ℕ) (size pool : ℕ → ℕ) (purchase : ℕ → Bool) (capacity : ℕ → ℕ) → Network
grid n m size pool purchase capacity = record { bids = n; pools = m; lines = m * m; size = size; pool = pool; purchase = purchase; source = λ k. k / m; target = λ k. k % m; capacity = capacity }

pub grid_sound : (n m : ℕ) (size pool : ℕ → ℕ) (purchase : ℕ → Bool) (capacity : ℕ → ℕ) → ((i : ℕ) → i < n → pool i < m) → SoundNetwork (grid n m size pool purchase capacity)
grid_sound n m size pool purchase capacity h = record {
  pool_below = h;
  source_below = λ k l. (row_column m k l).row;
  target_below = λ k l. (row_column m k l).column;
}

-- sums by rows
sum_cat : (k m : ℕ) (f : ℕ → ℕ) → sum_to (k + m) f ≡ sum_to k f + sum_to m (λ c. f (k + c))
unfolding sum_to
sum_cat k zero f = rw (add-zero k) (omega arith)
sum_cat k (suc m) f = rw (add-suc k m) (omega (arith, sum_cat k m f))

pub sum_rows : (a m : ℕ) (f : ℕ → ℕ) → sum_to (a * m) f ≡ sum_to a (λ r. sum_to m (λ c. f (r * m + c)))
unfolding sum_to
sum_rows zero m f = rw (zero-mul m) refl
sum_rows (suc a) m f = rw (suc-mul a m) (omega (arith, sum_cat (a * m) m f, sum_rows a m f))

module _ (n m : ℕ) (size pool : ℕ → ℕ) (purchase : ℕ → Bool) (capacity f : ℕ → ℕ) (p : ℕ) (l : p < m) where
  -- into pool p: its column; out of it: its row
  pub arriving_column : arriving (grid n m size pool purchase capacity) f (only p) ≡ sum_to m (λ a. f (a * m + p))
  unfolding arriving
  arriving_column =
      sum_rows m m (λ j. on (eqb (j % m) p) (f j))
      ∙ sum_ext m _ _ (λ a r.
      sum_ext m _ (λ c. on (eqb c p) (f (a * m + c))) (λ c q. ap (λ (z : ℕ). on (eqb z p) (f (a * m + c))) (digits_mod a q))
      ∙ sum_one m p (λ c. f (a * m + c)) l)

  pub departing_row : departing (grid n m size pool purchase capacity) f (only p) ≡ sum_to m (λ c. f (p * m + c))
  unfolding departing
  departing_row =
      sum_rows m m (λ j. on (eqb (j / m) p) (f j))
      ∙ sum_ext m _ _ (λ a r.
      sum_ext m _ (λ c. on (eqb a p) (f (a * m + c))) (λ c q. ap (λ (z : ℕ). on (eqb z p) (f (a * m + c))) (digits_div a q))
      ∙ sym (on_sum (eqb a p) m (λ c. f (a * m + c))))
      ∙ sum_one m p (λ a. sum_to m (λ c. f (a * m + c))) l

-- never both ways, by pools
pub grid_one_way : (n m : ℕ) (size pool : ℕ → ℕ) (purchase : ℕ → Bool) (capacity x : ℕ → ℕ) → WithinCuts (grid n m size pool purchase capacity) x → (a c : ℕ) → a < m → c < m
    → 0 < line_flow (grid n m size pool purchase capacity) x (a * m + c) → line_flow (grid n m size pool purchase capacity) x (c * m + a) ≡ 0
grid_one_way n m size pool purchase capacity x given a c l r h =
    never_both (grid n m size pool purchase capacity) x given (a * m + c) (c * m + a) (digits_lt l r) (digits_lt r l)
    (digits_div c l ∙ sym (digits_mod a r)) (digits_mod c l ∙ sym (digits_div a r)) h
