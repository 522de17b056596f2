-- `clear` meets its contract: what sealing says decides, and the plan runs from the sealed sheet.
use Rattle.std.proofs.Common.{ℕ, ◌≡◌, sym, ap₂, ◌∙◌, false, rules, length, ℤ, pos, to_z-of_z}
use Rattle.std.proofs.lemmas.Result.{err_from_is_err_and}
use Rattle.definitions.specs.Answers.{is_none, unless}
use Rattle.definitions.specs.Book.{Book, book, book_of}
use Rattle.definitions.specs.Calls.{seal_refusal}
use Rattle.definitions.specs.Clearing.{welfare}
use Rattle.definitions.specs.Machine.{cell}
use Rattle.definitions.specs.Outcome.{result_of, plan_run, clear_welfare}
use Rattle.definitions.specs.RunningSum.{sales_welfare, clear_sales_welfare}
use Rattle.definitions.specs.Sheet.{amount_cell}
use Rattle.definitions.specs.Plan.{total}
use Rattle.laws.specs.Search.{turned_away}
use Rattle.plan.specs.Plan.{plan}
use Rattle.plan.proofs.Asking.{total_accepted}
use Rattle.orders.specs.Runs.{stepped_plan}
use Rattle.clearing.proofs.Sealing.{refused_count, refused_sum, refused_sheet, counts_pass, count_given, sum_given, sheet_given, amounts_within_lem, run_left}
use Rattle.clearing.proofs.clear.Goals as goal
use Rattle.clearing.proofs.clear.Goals.{After-from_residual, After-run_plan-orders}

-- ---- the book is refused

refused : (c : After-from_residual) → is_none (seal_refusal (book_of c.args.book.now) (length c.args.sheet.now)) ≡ false
refused c = turned_away c.in_err-counts.field-0.0 c.in_err-counts.ensures.refusal

pub returns-in_err-counts-clause-orders : goal.returns-in_err-counts-clause-orders
returns-in_err-counts-clause-orders c =
    let p = err_from_is_err_and c.from_residual.result c.from_residual.ensures.1 in
    rw p.1 (refused_count (book_of c.args.book.now) c.args.sheet.now (refused c))

pub returns-in_err-counts-clause-welfare : goal.returns-in_err-counts-clause-welfare
unfolding clear_welfare
returns-in_err-counts-clause-welfare c =
    let p = err_from_is_err_and c.from_residual.result c.from_residual.ensures.1 in
    rw p.1 (refused_sum (book_of c.args.book.now) c.args.sheet.now (refused c) welfare)

pub returns-in_err-counts-clause-sales_welfare : goal.returns-in_err-counts-clause-sales_welfare
unfolding clear_sales_welfare
returns-in_err-counts-clause-sales_welfare c =
    let p = err_from_is_err_and c.from_residual.result c.from_residual.ensures.1 in
    rw p.1 (refused_sum (book_of c.args.book.now) c.args.sheet.now (refused c) sales_welfare)

pub returns-in_err-counts-clause-cells : goal.returns-in_err-counts-clause-cells
returns-in_err-counts-clause-cells c = c.seal.ensures.cells ∙ refused_sheet (book_of c.args.book.now) c.args.sheet.now (refused c)

-- ---- it is accepted

-- the sheet after the plan
ran : (c : After-run_plan-orders) → c.run_plan-orders.new.sheet ≡ plan_run plan (book_of c.args.book.now)
ran c =
    let same = c.in_ok-counts.ensures.counts in
    run_left (book_of c.args.book.now) c.args.sheet.now (sym c.in_ok-counts.ensures.refusal) _ _ c.seal.ensures.cells
    (c.run_plan-orders.ensures.cells ∙ ap₂ (λ (n : ℕ) (m : ℕ). stepped_plan plan n m c.seal.new.sheet) same.0 same.1)

pub welfare_of-sums-requires : goal.welfare_of-sums-requires
welfare_of-sums-requires c =
    let B : Book = book_of c.args.book.now in
    let same = c.in_ok-counts.ensures.counts in
    let run = (goal.at.welfare_of-sums-requires c).After-run_plan-orders in
    rw (same.0, same.1, ran run) (amounts_within_lem B c.args.sheet.now (sym c.in_ok-counts.ensures.refusal))

pub returns-clause-orders : goal.returns-clause-orders
returns-clause-orders c =
    let B : Book = book_of c.args.book.now in
    let same = c.in_ok-counts.ensures.counts in
    let accepted = sym c.in_ok-counts.ensures.refusal in
    c.run_plan-orders.ensures.count
    ∙ ap₂ (total plan) same.0 same.1
    ∙ total_accepted plan B.n B.m (counts_pass B c.args.sheet.now accepted)
    ∙ count_given B c.args.sheet.now accepted

-- a sum over the amounts that the sheet then holds is what is given of it
sum_left : (c : After-run_plan-orders) → (sum : Book → (ℕ → ℕ) → ℤ)
    → let B = book_of c.args.book.now in
    let counts = c.in_ok-counts.counts in
    sum (book counts.n counts.m B.bids B.capacities) (λ i. cell c.run_plan-orders.new.sheet (amount_cell counts.n counts.m i))
    ≡ unless (seal_refusal B (length c.args.sheet.now)) (sum B (result_of B (plan_run plan B)).accepted) (pos 0)
sum_left c sum =
    let same = c.in_ok-counts.ensures.counts in
    rw (same.0, same.1, ran c) (sum_given (book_of c.args.book.now) c.args.sheet.now (sym c.in_ok-counts.ensures.refusal) sum)

pub returns-clause-welfare : goal.returns-clause-welfare
unfolding clear_welfare
returns-clause-welfare c =
    search (rules, to_z-of_z)
    ∙ c.welfare_of-sums.ensures.whole c.args.book.now.capacities.now
    ∙ sum_left (goal.at.returns-clause-welfare c).After-run_plan-orders welfare

pub returns-clause-sales_welfare : goal.returns-clause-sales_welfare
unfolding clear_sales_welfare
returns-clause-sales_welfare c =
    search (rules, to_z-of_z)
    ∙ c.welfare_of-sums.ensures.sales c.args.book.now.capacities.now
    ∙ sum_left (goal.at.returns-clause-sales_welfare c).After-run_plan-orders sales_welfare

pub returns-clause-cells : goal.returns-clause-cells
returns-clause-cells c =
    let run = (goal.at.returns-clause-cells c).After-run_plan-orders in
    ran run ∙ sheet_given (book_of c.args.book.now) c.args.sheet.now (sym c.in_ok-counts.ensures.refusal)
