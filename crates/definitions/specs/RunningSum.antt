-- Welfare summed sales first (document 02, request 3): the running sum, what clearing gives of it, and its end.
-- "Our workshop display shows the running sum, and the fitters read sales before purchases on every other page."
use Rattle.std.specs.Prelude.{ℕ, zero, suc, cond, ℤ, pos, neg_ℤ, ◌+ℤ◌}
use Rattle.definitions.specs.Book.{Book, purchase, sale}
use Rattle.definitions.specs.Clearing.{value}
use Rattle.definitions.specs.Answers.{unless}
use Rattle.definitions.specs.Calls.{seal_refusal}
use Rattle.definitions.specs.Plan.{Plan}
use Rattle.definitions.specs.Outcome.{result_of, plan_run}

-- a running sum: it begins with `start`, and then adds one part after another
unfoldable pub running_sum : (start : ℤ) (part : ℕ → ℤ) → (k : ℕ) → ℤ
running_sum start part zero = start
running_sum start part (suc k) = running_sum start part k +ℤ part k

-- what bid i adds if it is a sale: by formula (1) its price × accepted is taken off. A withdrawn bid is a sale of 0.
abbrev pub sale_part : Book → (ℕ → ℕ) → ℕ → ℤ
sale_part B accepted i = cond (sale B i) (neg_ℤ (value B accepted i)) (pos 0)

-- what it adds if it is a purchase
abbrev pub purchase_part : Book → (ℕ → ℕ) → ℕ → ℤ
purchase_part B accepted i = cond (purchase B i) (value B accepted i) (pos 0)

-- "Sum all sales .. by bid number": the running sum after those of the first k bids that are sales
unfoldable pub sum_of_sales : Book → (ℕ → ℕ) → (k : ℕ) → ℤ
sum_of_sales B accepted = running_sum (pos 0) (sale_part B accepted)

-- "the welfare of the sales alone, the sum after the last sale"
unfoldable pub sales_welfare : Book → (ℕ → ℕ) → ℤ
sales_welfare B accepted = sum_of_sales B accepted B.n

-- "then all purchases, each by bid number": from there on, the running sum after those of the first k bids that are purchases
unfoldable pub sum_with_purchases : Book → (ℕ → ℕ) → (k : ℕ) → ℤ
sum_with_purchases B accepted = running_sum (sales_welfare B accepted) (purchase_part B accepted)

-- "The end figure". That it "is still formula (1)" is a theorem, `end_figure_is`.
unfoldable pub end_figure : Book → (ℕ → ℕ) → ℤ
end_figure B accepted = sum_with_purchases B accepted B.n

-- "Clearing also gives the welfare of the sales alone": of the clearing that its run leaves, and on a refusal 0 as the welfare is
unfoldable pub clear_sales_welfare : Plan → Book → (cells : ℕ) → ℤ
clear_sales_welfare plan B cells = unless (seal_refusal B cells) (sales_welfare B (result_of B (plan_run plan B)).accepted) (pos 0)
