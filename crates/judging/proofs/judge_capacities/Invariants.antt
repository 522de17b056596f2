-- Invariants: nothing is refused yet, and the answer is that of the rows from a on; within row a it is that of the columns from b on.
use Rattle.std.specs.Prelude.{ℕ, ◌≡◌, ◌-◌, List, [], ℤ, Ok}
use Rattle.definitions.specs.Book.{Book, book}
use Rattle.definitions.specs.Calls.{first_from, entry_refusal, row_refusal, capacities_refusal}
use Rattle.judging.proofs.judge_capacities.Given as goal

-- the book as far as capacities go
abbrev lines : ℕ → List ℤ → Book
lines m capacities = book 0 m [] capacities

abbrev pub invariant-loop-b : goal.invariant-loop-b
invariant-loop-b l = record {
  accepted : l.verdict ≡ Ok tt;
  rest : row_refusal (lines l.m l.capacities) l.a ≡ first_from l.b (l.m - l.b) (entry_refusal (lines l.m l.capacities) l.a);
}

abbrev pub invariant-rows : goal.invariant-rows
invariant-rows l = record {
  accepted : l.verdict ≡ Ok tt;
  rest : capacities_refusal (lines l.m l.capacities) ≡ first_from l.a (l.m - l.a) (row_refusal (lines l.m l.capacities));
}
