-- What the runner does with the bytes of a whole plan.
use Rattle.std.specs.Prelude.{ℕ, ◌≡◌, List, length}
use Rattle.definitions.specs.declared.Order.{Order}
use Rattle.definitions.specs.Answers.{none}
use Rattle.definitions.specs.Calls.{run_refusal, run_sheet, run_count}
use Rattle.definitions.specs.Machine.{IsSheet, run_of}

-- the runner accepts some bytes and runs a plan's orders; what it leaves is a sheet
pub record PlanRun (orders : List Order) (sheet bytes : List ℕ) : Type 0 where
  pub accepted : run_refusal sheet bytes ≡ none
  pub leaves : run_sheet sheet bytes ≡ run_of orders sheet
  pub is_sheet : IsSheet (run_sheet sheet bytes)
  pub count : run_count sheet bytes ≡ length orders
