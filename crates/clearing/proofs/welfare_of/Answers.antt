-- `welfare_of` meets its contract: the amounts' cells lie on the sheet, and their part of it is summed.
use Rattle.std.proofs.Common.{ℕ, ◌+◌, ◌-◌, ◌≡◌, ap, ◌∙◌, arith, List, take, drop, ℤ}
use Rattle.definitions.specs.Book.{Book, book}
use Rattle.definitions.specs.Sheet.{first_result, amount_cell}
use Rattle.definitions.specs.Machine.{cell}
use Rattle.sums.specs.SummedWelfare.{OverBids, summed, welfare_over_bids, sales_over_bids}
use Rattle.clearing.specs.Amounts.{amounts_summed}
use Rattle.clearing.proofs.welfare_of.Goals as goal
use Rattle.clearing.proofs.welfare_of.Goals.{After-welfare}

-- a sum of the part of the sheet that is handed over is that of the amounts on the sheet
part_summed : (c : After-welfare) → {sum : Book → (ℕ → ℕ) → ℤ} → OverBids sum → (capacities : List ℤ) → let a = c.args in let n = a.counts.n in let m = a.counts.m in
    let at : ℕ = c.first_result-first.result in
    summed sum a.bids.now (take (at + n - at) (drop at a.sheet.now)) ≡ sum (book n m a.bids.now capacities) (λ i. cell a.sheet.now (amount_cell n m i))
part_summed c {sum = sum} over capacities =
    let n = c.args.counts.n in
    let m = c.args.counts.m in
    let bids = c.args.bids.now in
    let sheet = c.args.sheet.now in
    let first : ℕ = first_result n m in
    ap (λ (at : ℕ). summed sum bids (take (at + n - at) (drop at sheet))) c.first_result-first.ensures
    ∙ amounts_summed n m bids sheet c.requires (first + n - first) (omega arith) over capacities

pub returns-clause-sales : goal.returns-clause-sales
returns-clause-sales c capacities = c.welfare.ensures.sales ∙ part_summed c sales_over_bids capacities

pub returns-clause-whole : goal.returns-clause-whole
returns-clause-whole c capacities = c.welfare.ensures.whole ∙ part_summed c welfare_over_bids capacities
