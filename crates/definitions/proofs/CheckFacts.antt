-- The test of a feasible clearing and the refusals on small books; which clearings are optimal, which numbers pass, and what exactly means.
use Rattle.std.proofs.Common.{ℕ, zero, suc, ◌+◌, ◌*◌, ◌≤◌, ◌≡◌, refl, sym, ap, Bool, true, false, true≢false, List, [], ◌∷◌, arith, get_or, replicate, ℤ, pos, negsuc, neg_ℤ, nat_abs, ◌≤ℤ◌}
use Rattle.definitions.proofs.Cases.{below_two, lines_of_two}
use Rattle.definitions.specs.Arithmetic.{sum_to, sum_z, all_to}
use Rattle.definitions.specs.Book.{Book, book}
use Rattle.definitions.specs.Clearing.{Clearing, Feasible, sold, bought, inflow, outflow, welfare}
use Rattle.definitions.specs.Answers.{none, refuse, is_none}
use Rattle.definitions.specs.Calls.{amounts_of, flows_of, seal_refusal, bids_refusal, capacities_refusal, row_refusal, first_from}
use Rattle.definitions.specs.Checks.{feasible_numbers, amounts_within, flows_within, balanced, balanced_at, sent_refusal, sent_feasible, check_refusal, Optimal, Passes, Exactly}
use Rattle.definitions.specs.Examples.{book_one, book_two, book_seven}

-- the flows of two pools that ship from the first to the second, and back
abbrev shipped : (there back : ℤ) → List ℤ
shipped there back = pos 0 ∷ there ∷ back ∷ pos 0 ∷ []

-- ---- example 2 of document 01: 10 for sale in the first pool, 6 wanted in the second, 3 can be shipped

-- right; nothing traded; then one bid's amount below 0, the line overfilled, the way back used, a flow below 0, a flow within the first pool,
-- one pool out of balance, the other, and a balance over both pools together only
tests :
    feasible_numbers book_two (pos 3 ∷ pos 3 ∷ []) (shipped (pos 3) (pos 0))
    ∷ feasible_numbers book_two (pos 0 ∷ pos 0 ∷ []) (shipped (pos 0) (pos 0))
    ∷ feasible_numbers book_two (neg_ℤ (pos 3) ∷ pos 3 ∷ []) (shipped (pos 3) (pos 0))
    ∷ feasible_numbers book_two (pos 4 ∷ pos 4 ∷ []) (shipped (pos 4) (pos 0))
    ∷ feasible_numbers book_two (pos 2 ∷ pos 2 ∷ []) (shipped (pos 3) (pos 1))
    ∷ feasible_numbers book_two (pos 3 ∷ pos 3 ∷ []) (shipped (neg_ℤ (pos 3)) (pos 0))
    ∷ feasible_numbers book_two (pos 3 ∷ pos 3 ∷ []) (pos 1 ∷ pos 3 ∷ pos 0 ∷ pos 0 ∷ [])
    ∷ feasible_numbers book_two (pos 2 ∷ pos 3 ∷ []) (shipped (pos 3) (pos 0))
    ∷ feasible_numbers book_two (pos 3 ∷ pos 2 ∷ []) (shipped (pos 3) (pos 0))
    ∷ feasible_numbers book_two (pos 3 ∷ pos 3 ∷ []) (shipped (pos 0) (pos 0))
    ∷ []
    ≡ true ∷ true ∷ false ∷ false ∷ false ∷ false ∷ false ∷ false ∷ false ∷ false ∷ []
unfolding book_two feasible_numbers amounts_within flows_within balanced balanced_at all_to sold bought inflow outflow sum_to
tests = refl

-- example 1, 10 for sale and 6 wanted in one pool: all that is wanted, and one more
sizes : feasible_numbers book_one (pos 6 ∷ pos 6 ∷ []) (pos 0 ∷ []) ∷ feasible_numbers book_one (pos 7 ∷ pos 7 ∷ []) (pos 0 ∷ []) ∷ [] ≡ true ∷ false ∷ []
unfolding book_one feasible_numbers amounts_within flows_within balanced balanced_at all_to sold bought inflow outflow sum_to
sizes = refl

-- ---- the refusals

-- one pool and one bid with hundredths of 0, and this entry on the diagonal
abbrev one : (pool price quantity capacity : ℤ) → Book
one pool price quantity capacity = book 1 1 (pool ∷ price ∷ quantity ∷ pos 0 ∷ []) (capacity ∷ [])

-- accepted; each of the four lengths one off; lengths before bids, bids before capacities, counts before lengths
refusals :
    check_refusal (one (pos 1) (pos 5) (pos 7) (pos 0)) 1 1
    ∷ check_refusal (book 1 1 (pos 1 ∷ pos 5 ∷ pos 7 ∷ []) (pos 0 ∷ [])) 1 1
    ∷ check_refusal (book 1 1 (pos 1 ∷ pos 5 ∷ pos 7 ∷ pos 0 ∷ []) []) 1 1
    ∷ check_refusal (one (pos 1) (pos 5) (pos 7) (pos 0)) 2 1
    ∷ check_refusal (one (pos 1) (pos 5) (pos 7) (pos 0)) 1 0
    ∷ check_refusal (one (pos 2) (pos 5) (pos 7) (pos 0)) 1 2
    ∷ check_refusal (one (pos 2) (pos 5) (pos 7) (pos 1)) 1 1
    ∷ check_refusal (one (pos 1) (pos 30001) (pos 7) (pos 1)) 1 1
    ∷ check_refusal (one (pos 1) (pos 5) (pos 65536) (pos 1)) 1 1
    ∷ check_refusal (one (pos 1) (pos 5) (pos 7) (pos 1)) 1 1
    ∷ check_refusal (book 0 2 [] (shipped (neg_ℤ (pos 1)) (pos 0))) 0 4
    ∷ check_refusal (book 65 0 [] []) 0 1
    ∷ check_refusal (book 0 5 [] []) 1 0
    ∷ []
    ≡ none ∷ refuse 3 0 ∷ refuse 3 0 ∷ refuse 3 0 ∷ refuse 3 0 ∷ refuse 3 0 ∷ refuse 4 1 ∷ refuse 5 1 ∷ refuse 6 1 ∷ refuse 8 1 ∷ refuse 7 2 ∷ refuse 1 0 ∷ refuse 2 0 ∷ []
unfolding check_refusal sent_refusal seal_refusal bids_refusal capacities_refusal row_refusal first_from
refusals = refl

-- without the book's own numbers: each of the four lengths one off, and a bad bid with right lengths
lengths :
    sent_refusal (book 1 1 (pos 1 ∷ pos 5 ∷ pos 7 ∷ []) (pos 0 ∷ [])) 1 1
    ∷ sent_refusal (book 1 1 (pos 1 ∷ pos 5 ∷ pos 7 ∷ pos 0 ∷ []) []) 1 1
    ∷ sent_refusal (one (pos 1) (pos 5) (pos 7) (pos 0)) 0 1
    ∷ sent_refusal (one (pos 1) (pos 5) (pos 7) (pos 0)) 1 2
    ∷ sent_refusal (one (pos 2) (pos 5) (pos 7) (pos 0)) 1 1
    ∷ []
    ≡ refuse 3 0 ∷ refuse 3 0 ∷ refuse 3 0 ∷ refuse 3 0 ∷ none ∷ []
unfolding sent_refusal
lengths = refl

-- the test of numbers of any length: right numbers; each of the four lengths one off; too many pools; out of balance
tested :
    sent_feasible book_two (pos 3 ∷ pos 3 ∷ []) (shipped (pos 3) (pos 0))
    ∷ sent_feasible (book 1 1 (pos 1 ∷ pos 5 ∷ pos 7 ∷ []) (pos 0 ∷ [])) (pos 0 ∷ []) (pos 0 ∷ [])
    ∷ sent_feasible (book 1 1 (pos 1 ∷ pos 5 ∷ pos 7 ∷ pos 0 ∷ []) []) (pos 0 ∷ []) (pos 0 ∷ [])
    ∷ sent_feasible (one (pos 1) (pos 5) (pos 7) (pos 0)) [] (pos 0 ∷ [])
    ∷ sent_feasible (one (pos 1) (pos 5) (pos 7) (pos 0)) (pos 0 ∷ []) (pos 0 ∷ pos 0 ∷ [])
    ∷ sent_feasible (book 0 5 [] (replicate 25 (pos 0))) [] (replicate 25 (pos 0))
    ∷ sent_feasible book_two (pos 2 ∷ pos 3 ∷ []) (shipped (pos 3) (pos 0))
    ∷ []
    ≡ true ∷ false ∷ false ∷ false ∷ false ∷ false ∷ false ∷ []
unfolding book_two sent_feasible sent_refusal feasible_numbers amounts_within flows_within balanced balanced_at all_to sold bought inflow outflow sum_to
tested = refl

-- the parts of two bids' and one pool's results
parts : amounts_of 2 (pos 5 ∷ pos 6 ∷ pos 7 ∷ pos 8 ∷ pos 1 ∷ []) ∷ flows_of 2 1 (pos 5 ∷ pos 6 ∷ pos 7 ∷ pos 8 ∷ pos 1 ∷ []) ∷ []
    ≡ (pos 5 ∷ pos 6 ∷ []) ∷ (pos 7 ∷ []) ∷ []
parts = refl

-- ---- 1 for sale at 20 in the first pool, 1 wanted at 30 in the second, and 1 can be shipped

pair : Book
pair = book 2 2 (pos 1 ∷ pos 20 ∷ neg_ℤ (pos 1) ∷ pos 0 ∷ pos 2 ∷ pos 30 ∷ pos 1 ∷ pos 0 ∷ []) (shipped (pos 1) (pos 0))

-- so much is traded and shipped
traded : ℕ → Clearing
traded k = record { accepted = λ i. k; flow = λ a b. get_or (0 ∷ k ∷ 0 ∷ 0 ∷ []) (a * 2 + b) 0 }

traded_feasible : (k : ℕ) → k ≤ 1 → Feasible pair (traded k)
unfolding pair traded sold bought inflow outflow sum_to
traded_feasible k h = record {
  amounts = below_two _ h h;
  flows = lines_of_two _ (omega arith) h (omega arith) (omega arith);
  balance = below_two _ (omega arith) (omega arith);
}

-- the trade is optimal: what a feasible clearing buys it sells, 1 at most
trade_optimal : Optimal pair (traded 1)
unfolding pair traded sold bought inflow outflow sum_to welfare sum_z
trade_optimal = record {
  feasible = traded_feasible 1 (omega arith);
  none_greater = λ d f.
      let sells : d.accepted 0 ≡ d.accepted 1 = omega (arith, f.balance 0 (omega arith), f.balance 1 (omega arith), f.flows 1 0 (omega arith) (omega arith)) in
      go d (d.accepted 0) (d.accepted 1) refl refl sells (f.amounts 0 (omega arith));
}
  where
    go : (d : Clearing) (x y : ℕ) → d.accepted 0 ≡ x → d.accepted 1 ≡ y → x ≡ y → x ≤ 1 → welfare pair d.accepted ≤ℤ welfare pair (traded 1).accepted
    go d zero zero p q e h = rw (p, q) (record { le = tt })
    go d (suc zero) (suc zero) p q e h = rw (p, q) (record { le = tt })
    go d zero (suc y) p q e h = absurd (omega arith)
    go d (suc zero) zero p q e h = absurd (omega arith)
    go d (suc zero) (suc (suc y)) p q e h = absurd (omega arith)
    go d (suc (suc x)) y p q e h = absurd (omega arith)

-- no trade is feasible too, and not optimal
none_not_optimal : (c : Clearing) → c.accepted 0 ≡ 0 → c.accepted 1 ≡ 0 → Optimal pair c → ⊥
unfolding pair traded welfare sum_z
none_not_optimal c p q o = rw (p, q) at (o.none_greater (traded 1) (traded_feasible 1 (omega arith))).le

not_below_zero : ℤ → Bool
not_below_zero (pos n) = true
not_below_zero (negsuc n) = false

-- the trade's numbers pass, by rows
trade_passes : Passes pair (pos 1 ∷ pos 1 ∷ []) (shipped (pos 1) (pos 0))
unfolding pair traded check_refusal sent_refusal seal_refusal bids_refusal capacities_refusal row_refusal first_from
trade_passes = record {
  no_refusal = refl;
  clearing = traded 1;
  sent = record { amounts_are = below_two _ refl refl; flows_are = lines_of_two _ refl refl refl refl };
  optimal = trade_optimal;
}

-- the same with every sign turned, one amount too many, nothing shipped, nothing traded: none of these passes
below_zero : Passes pair (neg_ℤ (pos 1) ∷ neg_ℤ (pos 1) ∷ []) (shipped (neg_ℤ (pos 1)) (pos 0)) → ⊥
unfolding pair not_below_zero
below_zero p = true≢false (sym (ap not_below_zero (p.sent.amounts_are 0 (omega arith))))

too_many : Passes pair (pos 1 ∷ pos 1 ∷ pos 0 ∷ []) (shipped (pos 1) (pos 0)) → ⊥
unfolding pair check_refusal sent_refusal
too_many p = true≢false (sym (ap is_none p.no_refusal))

not_shipped : Passes pair (pos 1 ∷ pos 1 ∷ []) (shipped (pos 0) (pos 0)) → ⊥
unfolding pair sold bought inflow outflow sum_to
not_shipped p =
    omega (
      arith,
      p.optimal.feasible.balance 0 (omega arith),
      ap nat_abs (p.sent.amounts_are 0 (omega arith)),
      ap nat_abs (p.sent.flows_are 0 1 (omega arith) (omega arith)),
    )

not_traded : Passes pair (pos 0 ∷ pos 0 ∷ []) (shipped (pos 0) (pos 0)) → ⊥
unfolding pair
not_traded p =
    none_not_optimal p.clearing (sym (ap nat_abs (p.sent.amounts_are 0 (omega arith)))) (sym (ap nat_abs (p.sent.amounts_are 1 (omega arith)))) p.optimal

-- with no bids, example 7 of document 01, flows both ways pass
both_ways : Passes book_seven [] (shipped (pos 5) (pos 5))
unfolding book_seven check_refusal sent_refusal seal_refusal bids_refusal capacities_refusal row_refusal first_from sold bought inflow outflow sum_to welfare sum_z
both_ways = record {
  no_refusal = refl;
  clearing = record { accepted = λ i. 0; flow = λ a b. get_or (0 ∷ 5 ∷ 5 ∷ 0 ∷ []) (a * 2 + b) 0 };
  sent = record { amounts_are = λ i l. absurd (omega arith); flows_are = lines_of_two _ refl refl refl refl };
  optimal = record {
    feasible = record {
      amounts = λ i l. absurd (omega arith);
      flows = lines_of_two _ (omega arith) (omega arith) (omega arith) (omega arith);
      balance = below_two _ refl refl;
    };
    none_greater = λ d f. record { le = tt };
  };
}

-- and below 0 they do not, though they balance
both_below_zero : Passes book_seven [] (shipped (neg_ℤ (pos 5)) (neg_ℤ (pos 5))) → ⊥
unfolding book_seven not_below_zero
both_below_zero p = true≢false (sym (ap not_below_zero (p.sent.flows_are 0 1 (omega arith) (omega arith))))

-- ---- exactly: not no to what is, nor yes to what is not; no to what is not, and yes to what is

no_wrong : Exactly false (Unit {0}) → ⊥
no_wrong x = true≢false (sym (x.meant tt))

yes_wrong : Exactly true ⊥ → ⊥
yes_wrong x = x.said refl

no_right : Exactly false ⊥
no_right = record { said = λ e. true≢false (sym e); meant = λ p. absurd p }

yes_right : Exactly true (Unit {0})
yes_right = record { said = λ e. tt; meant = λ p. refl }
