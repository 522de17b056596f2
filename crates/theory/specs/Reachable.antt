-- Which pools can be reached from which, with the flows of a clearing.
use Rattle.std.specs.Prelude.{◌≡◌, true, ℕ, ◌<◌}
use Rattle.definitions.specs.Book.{Book}
use Rattle.definitions.specs.PoolPrice.{one_step}

-- Pool q reaches another by steps of any number: "a pool reaches itself, and one step goes from a to b where line a to b is not full or line b to a
-- carries something".
pub data Reaches (B : Book) (flow : ℕ → ℕ → ℕ) (q : ℕ) : ℕ → Type 0 where
  itself : Reaches B flow q q
  step : (a b : ℕ) → a < B.m → b < B.m → Reaches B flow q a → one_step B flow a b ≡ true → Reaches B flow q b
