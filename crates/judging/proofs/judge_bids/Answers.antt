-- `judge_bids` meets its contract: each turn judges one bid.
use Rattle.std.proofs.Common.{ℕ, ◌+◌, ◌≡◌, sym, ◌∙◌, arith, List, [], ℤ, w32, to_z, of_z}
use Rattle.std.proofs.lemmas.Result.{err_from_is_err_and}
use Rattle.definitions.specs.Limits.{price_place, quantity_place, hundredths_place}
use Rattle.definitions.specs.Answers.{Refusal, numbered}
use Rattle.definitions.specs.Book.{Book, book, pool, whole_price, quantity, hundredths}
use Rattle.definitions.specs.Calls.{bid_fault, bids_refusal}
use Rattle.laws.specs.Search.{search_begins, search_passes, search_stops, search_ends, turned_away}
use Rattle.laws.specs.BidTable.{number, pool_read, number_read}
use Rattle.judging.proofs.Numbers.{bid_moved}
use Rattle.judging.proofs.judge_bids.Goals as goal
use Rattle.judging.proofs.judge_bids.Goals.{After-judge_numbers}

abbrev bid_at : Book → ℕ → Refusal
bid_at B i = numbered (bid_fault B.m (pool B i) (whole_price B i) (quantity B i) (hundredths B i)) (i + 1)

-- the book as far as bids go
abbrev lent : (n m : ℕ) (table : List ℤ) → Book
lent n m table = book n m table []

-- the bid that was judged is the table's
abbrev read : List (List ℤ) → (i j : ℕ) → ℤ
read bids i j = to_z w32 (of_z w32 (number bids i j))

judged : (c : After-judge_numbers) {r : Refusal} →
    let a = c.args in
    let i = c.loop-i.i in
    let bids = c.as_chunks.result.0.now in
    r ≡ numbered (bid_fault a.counts.m (read bids i 0) (read bids i price_place) (read bids i quantity_place) (read bids i hundredths_place)) (i + 1)
    → r ≡ bid_at (lent a.counts.n a.counts.m a.table.now) i
judged c =
    let table = c.args.table.now in
    let i = c.loop-i.i in
    let front = c.as_chunks.ensures in
    let h = c.loop-i-test.true in
    bid_moved c.args.counts.m (i + 1)
    (pool_read table front.front front.front_len i h c.pool-1.given)
    (number_read table front.front front.front_len i h price_place (omega arith) c.price-1.given)
    (number_read table front.front front.front_len i h quantity_place (omega arith) c.quantity-1.given)
    (number_read table front.front front.front_len i h hundredths_place (omega arith) c.hundredths-1.given)

pub loop-i-init : goal.loop-i-init
unfolding bids_refusal
loop-i-init c = let a = c.args in search_begins a.counts.n (bid_at (lent a.counts.n a.counts.m a.table.now))

pub returns-in_err-judge_numbers : goal.returns-in_err-judge_numbers
returns-in_err-judge_numbers c =
    let p = err_from_is_err_and c.from_residual.result c.from_residual.ensures.1 in
    let a = c.args in
    let here = judged (goal.at.returns-in_err-judge_numbers c).After-judge_numbers c.in_err-judge_numbers.ensures in
    rw (p.1, p.2)
    (here
    ∙ sym (c.loop-i.invariant
    ∙ search_stops a.counts.n (bid_at (lent a.counts.n a.counts.m a.table.now)) c.loop-i.i (omega arith) (turned_away c.in_err-judge_numbers.field-0.0 here)))

pub loop-i-preserved : goal.loop-i-preserved
loop-i-preserved c =
    let a = c.args in
    let here = judged (goal.at.loop-i-preserved c).After-judge_numbers c.in_ok-judge_numbers.ensures in
    c.loop-i.invariant ∙ search_passes a.counts.n (bid_at (lent a.counts.n a.counts.m a.table.now)) c.loop-i.i (omega arith) (sym here)

pub returns : goal.returns
returns c =
    let a = c.args in
    sym (c.loop-i.invariant
    ∙ search_ends a.counts.n (bid_at (lent a.counts.n a.counts.m a.table.now)) c.loop-i.i (omega arith))
