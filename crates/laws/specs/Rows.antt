-- A square table by rows: its entry k stands in row k / m and column k % m (`row_column`).
use Rattle.std.specs.Prelude.{ℕ, zero, suc, ◌+◌, ◌*◌, ◌/◌, ◌%◌, ◌<◌, ◌≡◌}
use Rattle.std.proofs.Common.{arith, mod-lt, div-lt_iff_lt-mul, div-add-mod'}

pub record RowColumn (m k : ℕ) : Type 0 where
  pub row : k / m < m
  pub column : k % m < m
  pub place : k / m * m + k % m ≡ k

pub row_column : (m k : ℕ) → k < m * m → RowColumn m k
row_column zero k l = absurd (omega arith)
row_column (suc m) k l =
    let positive : 0 < suc m = omega arith in
    record { row = (div-lt_iff_lt-mul positive).1 l; column = mod-lt k positive; place = div-add-mod' k (suc m) }
