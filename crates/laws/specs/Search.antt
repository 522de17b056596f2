-- Refusals as a function's code meets them: after a judge's `?`, and in a loop that leaves at the first one.
use Rattle.std.specs.Prelude.{ℕ, suc, ◌+◌, ◌-◌, ◌<◌, ◌≤◌, ◌≡◌, false}
use Rattle.std.proofs.Common.{sym, ap, ◌∙◌, arith}
use Rattle.definitions.specs.declared.Reason.{Reason}
use Rattle.definitions.specs.Answers.{Refusal, none, first, is_none, stated}
use Rattle.definitions.specs.Calls.{first_from}
use Rattle.laws.specs.Refusal.{first_from_end, first_from_next, first_from_passed, first_refused}
use Rattle.laws.specs.Verdicts.{stated_refuses}

-- ---- After a judge's `?`: its reason states what was asked, or it has none, and what was asked is no refusal

module _ {asked : Refusal} (reason : Reason) (right : stated reason ≡ asked) where
  pub turned_away : is_none asked ≡ false
  turned_away = ap is_none (sym right) ∙ stated_refuses reason

  -- it is the first refusal, whatever is asked next
  pub first_to_refuse : (next : Refusal) → stated reason ≡ first asked next
  first_to_refuse next = right ∙ sym (first_refused _ next turned_away)

pub after_none : {asked : Refusal} (next : Refusal) → none ≡ asked → next ≡ first asked next
after_none next e = ap (λ (r : Refusal). first r next) e

-- ---- A loop that searches f 0, .., f (n - 1): at index i its answer is that of the n - i which are left

module _ (n : ℕ) (f : ℕ → Refusal) where
  pub search_begins : first_from 0 n f ≡ first_from 0 (n - 0) f
  search_begins = ap (λ (k : ℕ). first_from 0 k f) (let e : n ≡ n - 0 = omega arith in e)

  -- one is left at least
  one_left : (i : ℕ) → i < n → first_from i (n - i) f ≡ first_from i (suc (n - (i + 1))) f
  one_left i h = ap (λ (k : ℕ). first_from i k f) (let e : n - i ≡ suc (n - (i + 1)) = omega arith in e)

  pub search_passes : (i : ℕ) → i < n → f i ≡ none → first_from i (n - i) f ≡ first_from (i + 1) (n - (i + 1)) f
  search_passes i h e = one_left i h ∙ first_from_passed i (n - (i + 1)) f e

  pub search_stops : (i : ℕ) → i < n → is_none (f i) ≡ false → first_from i (n - i) f ≡ f i
  search_stops i h e = one_left i h ∙ first_from_next i (n - (i + 1)) f ∙ first_refused (f i) (first_from (i + 1) (n - (i + 1)) f) e

  pub search_ends : (i : ℕ) → n ≤ i → first_from i (n - i) f ≡ none
  search_ends i h = ap (λ (k : ℕ). first_from i k f) (let e : n - i ≡ 0 = omega arith in e) ∙ first_from_end i f
