-- What is said of a book's counts and of its tables' lengths, before anything that they hold is judged; and of a call that asks for further lengths
-- with these.
use Rattle.std.specs.Prelude.{◌≡◌, refl, Bool, true, false, ◌&&◌}
use Rattle.std.proofs.Common.{sym, ap, ◌∙◌, true≢false}
use Rattle.definitions.specs.declared.Reason.{Reason}
use Rattle.definitions.specs.Answers.{Refusal, none, refuse, is_none, first, stated}
use Rattle.definitions.specs.Book.{Book}
use Rattle.definitions.specs.Calls.{counts_refusal, length_refusal, tables_right}
use Rattle.laws.specs.Refusal.{not_refused}
use Rattle.laws.specs.Verdicts.{stated_refuses}

-- 1, 2, 3
abbrev pub tables_refusal : Book → Refusal
tables_refusal B = first (counts_refusal B.n B.m) (length_refusal (tables_right B))

-- `asked` is what the call asks of all lengths, and then of the rest: 3 where they are not as stated
turned_away_by : (counts : Refusal) (tables : Bool) (reason : Reason) (further : Bool) (asked : Bool → Refusal) → asked false ≡ refuse 3 0
    → stated reason ≡ first counts (length_refusal tables) → stated reason ≡ first counts (asked (tables && further))
turned_away_by (refuse number place) tables reason further asked f e = e
turned_away_by none false reason further asked f e = e ∙ sym f
turned_away_by none true reason further asked f e = absurd (true≢false (sym (ap is_none e) ∙ stated_refuses reason))

passed_by : (counts : Refusal) (tables further : Bool) (asked : Bool → Refusal) → none ≡ first counts (length_refusal tables) → asked further ≡ first counts (asked (tables && further))
passed_by (refuse number place) tables further asked e = not_refused (sym e)
passed_by none false further asked e = not_refused (sym e)
passed_by none true further asked e = refl

module _ (B : Book) (further : Bool) (asked : Bool → Refusal) where
  pub tables_refused : (reason : Reason) → asked false ≡ refuse 3 0 → stated reason ≡ tables_refusal B → stated reason ≡ first (counts_refusal B.n B.m) (asked (tables_right B && further))
  tables_refused reason = turned_away_by (counts_refusal B.n B.m) (tables_right B) reason further asked

  pub tables_passed : none ≡ tables_refusal B → asked further ≡ first (counts_refusal B.n B.m) (asked (tables_right B && further))
  tables_passed = passed_by (counts_refusal B.n B.m) (tables_right B) further asked
