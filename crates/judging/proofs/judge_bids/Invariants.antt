-- Invariant: the answer is that of the bids from i on.
use Rattle.std.specs.Prelude.{ℕ, ◌≡◌, ◌+◌, ◌-◌, []}
use Rattle.definitions.specs.Answers.{Refusal, numbered}
use Rattle.definitions.specs.Book.{Book, book, pool, whole_price, quantity, hundredths}
use Rattle.definitions.specs.Calls.{first_from, bid_fault, bids_refusal}
use Rattle.judging.proofs.judge_bids.Given as goal

abbrev bid_at : Book → ℕ → Refusal
bid_at B i = numbered (bid_fault B.m (pool B i) (whole_price B i) (quantity B i) (hundredths B i)) (i + 1)

abbrev pub invariant-loop-i : goal.invariant-loop-i
invariant-loop-i l =
    let B = book l.counts.n l.counts.m l.table [] in
    bids_refusal B ≡ first_from l.i (l.counts.n - l.i) (bid_at B)
