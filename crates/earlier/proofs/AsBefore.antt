-- "A three-number book read with hundredths 0 has the same accepted amounts as before" (`as_before`).
use Rattle.std.proofs.Common.{◌∙◌}
use Rattle.definitions.specs.Limits.{cell_count}
use Rattle.definitions.specs.Calls.{AcceptedBook}
use Rattle.theory.specs.BestClearing.{best_exists, best_unique}
use Rattle.earlier.specs.Earlier as earlier
use Rattle.earlier.specs.Widened.{widened_book, same_clearing}
use Rattle.earlier.specs.AsBefore.{AsBefore}
use Rattle.earlier.proofs.Refusals.{refusal_same}
use Rattle.earlier.proofs.Clearings.{earlier_clearing, best, was_best}
use Rattle.earlier.proofs.Welfare.{welfare_hundred}

-- a book that was accepted is accepted
pub still_accepted : (B : earlier.Book) → earlier.AcceptedBook B → AcceptedBook (widened_book B)
still_accepted B h = refusal_same B cell_count ∙ h

pub as_before : (B : earlier.Book) → AsBefore B
as_before B = record {
  accepted = still_accepted B;
  best = best B;
  was_best = λ c h. was_best B (same_clearing c) h;
  existed = λ h. let found = best_exists (widened_book B) (still_accepted B h) in (earlier_clearing found.0, was_best B found.0 found.1);
  amounts = λ h c b e d i l. best_unique (widened_book B) (still_accepted B h) e (same_clearing c) d (best B c b) i l;
  worth = welfare_hundred B;
}
