-- "A three-number book read with hundredths 0 has the same accepted amounts as before": the statement. It holds of every book: `as_before` in
-- proofs/AsBefore.
use Rattle.std.specs.Prelude.{ℕ, ◌<◌, ◌≡◌, pos, ◌*ℤ◌}
use Rattle.definitions.specs.Limits.{hundred}
use Rattle.definitions.specs.Clearing.{Clearing, Best, welfare}
use Rattle.definitions.specs.Calls.{AcceptedBook}
use Rattle.earlier.specs.Earlier as earlier
use Rattle.earlier.specs.Widened.{widened_book, same_clearing}

pub record AsBefore (B : earlier.Book) : Type 0 where
  -- it is accepted if it was; more is so, `refusal_same`
  pub accepted : earlier.AcceptedBook B → AcceptedBook (widened_book B)
  -- a clearing is best exactly if it was
  pub best : (c : earlier.Clearing) → earlier.Best B c → Best (widened_book B) (same_clearing c)
  pub was_best : (c : earlier.Clearing) → Best (widened_book B) (same_clearing c) → earlier.Best B c
  -- if it was accepted, there was a best clearing, and every best clearing accepts of each bid what every best clearing accepted
  pub existed : earlier.AcceptedBook B → (c : earlier.Clearing) × earlier.Best B c
  pub amounts : earlier.AcceptedBook B → (c : earlier.Clearing) → earlier.Best B c → (e : Clearing) → Best (widened_book B) e
      → (i : ℕ) → i < B.n → e.accepted i ≡ c.accepted i
  -- the welfare of any amounts, in hundredths, is 100 times what it was
  pub worth : (accepted : ℕ → ℕ) → welfare (widened_book B) accepted ≡ earlier.welfare B accepted *ℤ pos hundred
