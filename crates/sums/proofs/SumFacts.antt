-- The sums on small books: which tables fit, what changes hands in each pool of example 2 of document 01, and welfare in hundredths: of example 4,
-- and of prices in two parts.
use Rattle.std.proofs.Common.{ℕ, ◌≡◌, refl, true, false, List, [], ◌∷◌, ℤ, pos, neg_ℤ}
use Rattle.definitions.specs.Arithmetic.{sum_to, sum_z, all_to}
use Rattle.definitions.specs.Clearing.{sold, bought, inflow, outflow, welfare}
use Rattle.definitions.specs.Examples.{book_two, book_four}
use Rattle.definitions.specs.RunningSum.{running_sum, sum_of_sales, sales_welfare}
use Rattle.sums.specs.Pools.{summable, PoolSummed}
use Rattle.sums.specs.SummedWelfare.{amounts_small, amounts_fit, summed}

-- ---- tables that fit

-- two bids and two pools, and the most of both; a pool too far, each of the two lengths one off, a bid too many, a pool too many
fitting :
    summable 2 0 8 2 4
    ∷ summable 2 1 8 2 4
    ∷ summable 4 3 256 64 16
    ∷ summable 2 2 8 2 4
    ∷ summable 2 0 7 2 4
    ∷ summable 2 0 8 2 5
    ∷ summable 2 0 260 65 4
    ∷ summable 5 0 8 2 25
    ∷ []
    ≡ true ∷ true ∷ true ∷ false ∷ false ∷ false ∷ false ∷ false ∷ []
unfolding summable
fitting = refl

-- ---- what changes hands: 3 are sold in the first pool, brought over, and bought in the second

-- these four numbers are given for pool p
abbrev given : (p : ℕ) (flows : List ℤ) (sales purchases entering leaving : ℕ) → Type 0
given p flows = PoolSummed 2 p book_two.bids (pos 3 ∷ pos 3 ∷ []) flows

first_pool : (s b i o : ℕ) → given 0 (pos 0 ∷ pos 3 ∷ pos 0 ∷ pos 0 ∷ []) s b i o → s ∷ b ∷ i ∷ o ∷ [] ≡ 3 ∷ 0 ∷ 0 ∷ 3 ∷ []
unfolding book_two summable sold bought inflow outflow sum_to
first_pool s b i o g = cc (g.sold_is, g.bought_is, g.inflow_is, g.outflow_is)

second_pool : (s b i o : ℕ) → given 1 (pos 0 ∷ pos 3 ∷ pos 0 ∷ pos 0 ∷ []) s b i o → s ∷ b ∷ i ∷ o ∷ [] ≡ 0 ∷ 3 ∷ 3 ∷ 0 ∷ []
unfolding book_two summable sold bought inflow outflow sum_to
second_pool s b i o g = cc (g.sold_is, g.bought_is, g.inflow_is, g.outflow_is)

-- with a flow missing the tables do not fit, and each number is 0
no_sums : (s b i o : ℕ) → given 0 (pos 0 ∷ pos 3 ∷ pos 0 ∷ []) s b i o → s ∷ b ∷ i ∷ o ∷ [] ≡ 0 ∷ 0 ∷ 0 ∷ 0 ∷ []
unfolding book_two summable
no_sums s b i o g = cc (g.sold_is, g.bought_is, g.inflow_is, g.outflow_is)

-- ---- welfare, in hundredths: 5 sold at 10, and 4 and 1 bought at 30

-- the amounts, and the sales alone; the greatest amount and one more; a bid missing, an amount missing
weighed :
    summed welfare book_four.bids (5 ∷ 4 ∷ 1 ∷ [])
    ∷ summed sales_welfare book_four.bids (5 ∷ 4 ∷ 1 ∷ [])
    ∷ summed welfare book_four.bids (65535 ∷ 0 ∷ 0 ∷ [])
    ∷ summed welfare book_four.bids (65536 ∷ 0 ∷ 0 ∷ [])
    ∷ summed welfare book_two.bids (5 ∷ 4 ∷ 1 ∷ [])
    ∷ summed welfare book_four.bids (5 ∷ 4 ∷ [])
    ∷ []
    ≡ pos 10000 ∷ neg_ℤ (pos 5000) ∷ neg_ℤ (pos 65535000) ∷ pos 0 ∷ pos 0 ∷ pos 0 ∷ []
unfolding book_two book_four summed amounts_fit amounts_small all_to welfare sum_z sales_welfare sum_of_sales running_sum
weighed = refl

-- 2 sold at −3 with 25, and 1 each bought at 25 with 10 and 25 with 40; and those sales alone
abbrev parted : List ℤ
parted =
    pos 1 ∷ neg_ℤ (pos 3) ∷ neg_ℤ (pos 2) ∷ pos 25
    ∷ pos 1 ∷ pos 25 ∷ pos 1 ∷ pos 10
    ∷ pos 1 ∷ pos 25 ∷ pos 1 ∷ pos 40 ∷ []

in_two_parts : summed welfare parted (2 ∷ 1 ∷ 1 ∷ []) ∷ summed sales_welfare parted (2 ∷ 1 ∷ 1 ∷ []) ∷ [] ≡ pos 5600 ∷ pos 550 ∷ []
unfolding summed amounts_fit amounts_small all_to welfare sum_z sales_welfare sum_of_sales running_sum
in_two_parts = refl
