-- Views on small tables, what is refused of them, and what agreement and one of each holder are and are not.
use Rattle.std.proofs.Common.{ℕ, ◌+◌, ◌≡◌, refl, sym, ap, true≢false, List, [], ◌∷◌, arith, get_or, replicate, ℤ, pos, neg_ℤ, nat_abs}
use Rattle.definitions.proofs.Cases.{below_one, below_three}
use Rattle.definitions.specs.Answers.{none, refuse}
use Rattle.definitions.specs.Calls.{result_at, flow_place, pool_place}
use Rattle.definitions.specs.Views.{is_among, view_of, view_refusal, view_slice, Agree, Distinct, OneEach, sum_over}

-- three bids, of which the first and the last are holder 7's; flow, price, hundredths and presence stay, and what they are plays no part
results : List ℤ
results = pos 1 ∷ neg_ℤ (pos 2) ∷ pos 3 ∷ pos 4 ∷ neg_ℤ (pos 5) ∷ pos 25 ∷ pos 1 ∷ []

shown : view_of (7 ∷ 9 ∷ 7 ∷ []) 7 results ∷ view_of (7 ∷ 9 ∷ 7 ∷ []) 9 results ∷ view_of (7 ∷ 9 ∷ 7 ∷ []) 8 results ∷ []
    ≡ (pos 1 ∷ pos 0 ∷ pos 3 ∷ pos 4 ∷ neg_ℤ (pos 5) ∷ pos 25 ∷ pos 1 ∷ [])
    ∷ (pos 0 ∷ neg_ℤ (pos 2) ∷ pos 0 ∷ pos 4 ∷ neg_ℤ (pos 5) ∷ pos 25 ∷ pos 1 ∷ [])
    ∷ (pos 0 ∷ pos 0 ∷ pos 0 ∷ pos 4 ∷ neg_ℤ (pos 5) ∷ pos 25 ∷ pos 1 ∷ [])
    ∷ []
unfolding view_of results
shown = refl

-- holder 0 and the greatest; no bids; each length one off; an unknown holder after a wrong length, a wrong length after wrong counts
refusals :
    view_refusal 2 1 (0 ∷ 4294967295 ∷ []) 0 6 6
    ∷ view_refusal 2 1 (0 ∷ 4294967295 ∷ []) 4294967295 6 6
    ∷ view_refusal 2 1 (0 ∷ 4294967295 ∷ []) 4294967294 6 6
    ∷ view_refusal 0 1 [] 0 4 4
    ∷ view_refusal 1 1 (5 ∷ 5 ∷ []) 5 5 5
    ∷ view_refusal 1 1 (5 ∷ []) 5 6 5
    ∷ view_refusal 1 1 (5 ∷ []) 5 5 6
    ∷ view_refusal 1 1 (5 ∷ []) 5 6 6
    ∷ view_refusal 1 1 [] 6 5 5
    ∷ view_refusal 1 1 (5 ∷ []) 6 5 4
    ∷ view_refusal 65 0 [] 6 0 1
    ∷ view_refusal 1 0 [] 6 0 1
    ∷ []
    ≡ none ∷ none ∷ refuse 16 0 ∷ refuse 16 0 ∷ refuse 3 0 ∷ refuse 3 0 ∷ refuse 3 0 ∷ refuse 3 0 ∷ refuse 3 0 ∷ refuse 3 0 ∷ refuse 1 0 ∷ refuse 2 0 ∷ []
unfolding view_refusal is_among
refusals = refl

-- the slice takes the view, whatever it held, or is kept
slices : view_slice 3 1 (7 ∷ 9 ∷ 7 ∷ []) 9 results (replicate 7 (pos 8)) ∷ view_slice 3 1 (7 ∷ 9 ∷ 7 ∷ []) 8 results (replicate 7 (pos 8)) ∷ []
    ≡ (pos 0 ∷ neg_ℤ (pos 2) ∷ pos 0 ∷ pos 4 ∷ neg_ℤ (pos 5) ∷ pos 25 ∷ pos 1 ∷ []) ∷ replicate 7 (pos 8) ∷ []
unfolding view_slice view_refusal is_among view_of results
slices = refl

-- ---- agreement: one bid, holder 7's, and one pool; the results are an amount, a flow, a price, its hundredths and a presence

abbrev numbers : (amount flow price hundredths presence : ℕ) → List ℤ
numbers amount flow price hundredths presence = pos amount ∷ pos flow ∷ pos price ∷ pos hundredths ∷ pos presence ∷ []

-- another's amount plays no part
abbrev same_at : ℕ → Type 0
same_at k = result_at (numbers 1 2 3 4 1) k ≡ result_at (numbers 5 2 3 4 1) k

others_agree : Agree 1 1 (7 ∷ []) 9 (numbers 1 2 3 4 1) (numbers 5 2 3 4 1)
others_agree = record {
  amounts = below_one (λ i. get_or (7 ∷ []) i 0 ≡ 9 → same_at i) (λ e. absurd (omega arith));
  flows = λ a b l r. below_one (λ a. same_at (flow_place 1 1 a b)) (below_one (λ b. same_at (flow_place 1 1 0 b)) refl b (omega arith)) a (omega arith);
  prices = λ p k l r. below_one (λ p. same_at (pool_place 1 1 p + k)) (below_three (λ k. same_at (pool_place 1 1 0 + k)) refl refl refl k (omega arith)) p (omega arith);
}

-- each number that is shown does
disagree : (holder : ℕ) (r s : List ℤ) → Type 0
disagree holder r s = Agree 1 1 (7 ∷ []) holder r s → ⊥

different : {x y : ℕ} → (x ≡ y → ⊥) → pos x ≡ pos y → ⊥
different n e = n (ap nat_abs e)

shown_numbers : disagree 7 (numbers 1 2 3 4 1) (numbers 5 2 3 4 1) × disagree 9 (numbers 1 2 3 4 1) (numbers 1 5 3 4 1)
    × disagree 9 (numbers 1 2 3 4 1) (numbers 1 2 5 4 1) × disagree 9 (numbers 1 2 3 4 1) (numbers 1 2 3 5 1)
    × disagree 9 (numbers 1 2 0 0 1) (numbers 1 2 0 0 0)
unfolding disagree
shown_numbers = (
  λ a. different (λ e. omega arith) (a.amounts 0 (omega arith) refl),
  λ a. different (λ e. omega arith) (a.flows 0 0 (omega arith) (omega arith)),
  λ a. different (λ e. omega arith) (a.prices 0 0 (omega arith) (omega arith)),
  λ a. different (λ e. omega arith) (a.prices 0 1 (omega arith) (omega arith)),
  λ a. different (λ e. omega arith) (a.prices 0 2 (omega arith) (omega arith)),
)

-- ---- one of each holder

-- no holder twice, none left out, none that is not in the table
not_one_each : (OneEach (7 ∷ 9 ∷ 7 ∷ []) (7 ∷ 9 ∷ 7 ∷ []) → ⊥) × (OneEach (7 ∷ 9 ∷ 7 ∷ []) (7 ∷ []) → ⊥) × (OneEach (7 ∷ 9 ∷ 7 ∷ []) (7 ∷ 8 ∷ 9 ∷ []) → ⊥)
unfolding is_among Distinct
not_one_each = (λ e. true≢false e.distinct.0, λ e. true≢false (sym (e.the_same 9)), λ e. true≢false (e.the_same 8))

summed : sum_over (3 ∷ 5 ∷ 4 ∷ []) pos ≡ pos 12
unfolding sum_over
summed = refl
