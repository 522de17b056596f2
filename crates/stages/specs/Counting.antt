-- The stage that a text has come to after each word, where a number is stored, and what the text is if it ends there.
use Rattle.std.specs.Prelude.{ℕ, ◌+◌, ◌*◌, Bool, cond, List, ltb, eqb, set, take, drop, ℤ, pos, nat_abs, Option, Some, None, Ok, Err, is_err}
use Rattle.std.specs.declared.result.Result.{Result}
use Rattle.std.specs.Int.Signed.{lt_z}
use Rattle.std.specs.Result.{result_and}
use Rattle.definitions.specs.declared.Reason.{Reason}
use Rattle.definitions.specs.Limits.{bid_limit, pool_limit, bid_numbers}
use Rattle.definitions.specs.Book.{book}
use Rattle.definitions.specs.Answers.{Refusal, stated}
use Rattle.definitions.specs.Calls.{counts_refusal}
use Rattle.laws.specs.Verdicts.{verdict_of}
use Rattle.definitions.specs.Settle as settle
use Rattle.stages.specs.Words.{Ended}
use Rattle.stages.specs.declared.Stage.{Stage}
use Rattle.stages.specs.declared.Stage.TheVariants as stage
use Rattle.stages.specs.declared.Tables.{Tables}
use Rattle.stages.specs.declared.Unsettled.{Unsettled}
use Rattle.stages.specs.declared.Unsettled.TheVariants.{Unreadable, Refused}

-- how many numbers the tables of a book have at most
abbrev pub table_numbers : ℕ
table_numbers = bid_numbers * bid_limit + pool_limit * pool_limit

-- how far a text has come: a stage, or the answer
abbrev pub Progress : Type 0
Progress = Result Stage Unsettled

-- what a whole text is: its counts, or why it has no book
abbrev pub Input : Type 0
Input = Result Tables Unsettled

-- ---- the numbers read

-- what the counts call for, by what is said of them: how many numbers the tables have, or the refusal
abbrev pub called_by : (n m : ℕ) → Refusal → Result ℕ Reason
called_by n m r = result_and (verdict_of r) (Ok (bid_numbers * n + m * m))

-- what n and m call for
abbrev pub called_for : (n m : ℕ) → Result ℕ Reason
called_for n m = called_by n m (counts_refusal n m)

-- both counts are read
abbrev pub begun : (n m : ℕ) → Result ℕ Reason → Progress
begun n m (Ok called) = Ok (stage.Tables n m 0)
begun n m (Err reason) = Err (Refused reason)

-- one number more of the tables
abbrev pub one_number_more : (n m read : ℕ) → Result ℕ Reason → Progress
one_number_more n m read (Ok called) = cond (ltb read called) (Ok (stage.Tables n m (read + 1))) (Err Unreadable)
one_number_more n m read (Err reason) = Err Unreadable

-- a number more; n and m are not below 0
abbrev pub counted_by : Stage → ℤ → Progress
counted_by stage.First z = cond (lt_z z (pos 0)) (Err Unreadable) (Ok (stage.Second (nat_abs z)))
counted_by (stage.Second n) z = cond (lt_z z (pos 0)) (Err Unreadable) (begun n (nat_abs z) (called_for n (nat_abs z)))
counted_by (stage.Tables n m read) z = one_number_more n m read (called_for n m)

-- the stage after a word has ended; one that is no number makes the text unreadable, and an answer stays
abbrev pub taken_by : Progress → Ended → Progress
taken_by (Ok s) (Ok None) = Ok s
taken_by (Ok s) (Ok (Some z)) = counted_by s z
taken_by (Ok s) (Err fault) = Err Unreadable
taken_by (Err why) ended = Err why

-- where the next number is stored, if it is one of the tables'
abbrev pub place_within : (read : ℕ) → Result ℕ Reason → Option ℕ
place_within read (Ok called) = cond (ltb read called) (Some read) None
place_within read (Err reason) = None

-- where the number that comes next in a stage is stored
abbrev pub place_for : Progress → Option ℕ
place_for (Ok stage.First) = None
place_for (Ok (stage.Second n)) = None
place_for (Ok (stage.Tables n m read)) = place_within read (called_for n m)
place_for (Err why) = None

-- the numbers with the one of a word that has ended, if it has a place
abbrev pub stored_at : Ended → Option ℕ → List ℤ → List ℤ
stored_at (Ok None) at numbers = numbers
stored_at (Ok (Some z)) None numbers = numbers
stored_at (Ok (Some z)) (Some at) numbers = cond (ltb at table_numbers) (set numbers at z) numbers
stored_at (Err fault) at numbers = numbers

-- the answer is known, whatever follows
abbrev pub decided : Progress → Bool
decided s = is_err s

-- ---- the answer

-- the text ends in the tables: they are complete, or it is unreadable
abbrev pub completed : (n m read : ℕ) → Result ℕ Reason → Input
completed n m read (Ok called) = cond (eqb read called) (Ok (record { n = n; m = m })) (Err Unreadable)
completed n m read (Err reason) = Err Unreadable

-- what the text is if it ends in this stage
abbrev pub stage_input : Progress → Input
stage_input (Ok stage.First) = Err Unreadable
stage_input (Ok (stage.Second n)) = Err Unreadable
stage_input (Ok (stage.Tables n m read)) = completed n m read (called_for n m)
stage_input (Err why) = Err why

-- what each answer says of the text, with the numbers stored: first those of the bids, then those of the capacities
abbrev pub input_for : Input → List ℤ → settle.Input
input_for (Ok tables) numbers =
    settle.readable (book tables.n tables.m (take (bid_numbers * tables.n) numbers) (take (tables.m * tables.m) (drop (bid_numbers * tables.n) numbers)))
input_for (Err Unreadable) numbers = settle.unreadable
input_for (Err (Refused reason)) numbers = settle.refused (stated reason)
