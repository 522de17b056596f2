-- The clearing that the cuts give, of a sound book: it is best and permitted, and has the greatest welfare.
use Rattle.std.specs.Prelude.{◌≡◌, true, ℕ, ◌+◌, ◌*◌, ◌<◌, ◌/◌, ◌%◌, pos, ◌≤ℤ◌, cond}
use Rattle.std.proofs.Common.{sym, ◌∙◌, arith}
use Rattle.definitions.specs.Limits.{price_limit}
use Rattle.definitions.specs.Arithmetic.{on, sum_to, sum_z}
use Rattle.definitions.specs.Book.{Book, price, purchase, sale, size, capacity}
use Rattle.definitions.specs.Clearing.{Clearing, Feasible, before, used, welfare, value, Best, Permitted}
use Rattle.laws.specs.AcceptedBook.{Sound, pool_index, raised_price}
use Rattle.theory.specs.Integers.{positive_part, negative_part, subtract_read, sum_read, le_read}
use Rattle.theory.specs.Slacks.{line_flow}
use Rattle.theory.specs.Flows.{WithinCuts}
use Rattle.theory.specs.Greatest.{best_used, best_within_cuts, best_greatest}
use Rattle.theory.specs.Welfare.{FeasibleAmounts, turn, turn_turn, paid, taken, sold_in, bought_in, sold_bought, clearing_feasible, best_clearing, best_welfare}
use Rattle.theory.specs.Grid.{grid_one_way}
use Rattle.theory.specs.Hundredths.{price_raised}
use Rattle.theory.specs.BookNetwork.{network_of, by_lines, by_pools, used_is, network_sound, feasible_network, network_feasible, before_strict_total, before_rises}
use Rattle.theory.specs.Dictionary.{no_greater, no_greater_antisymmetric}

-- used amounts as differences of ranks
abbrev pub cut_used : Book → ℕ → ℕ
cut_used B = best_used (network_of B) (before B)

-- the clearing with these, and with flows found line by line
abbrev pub cut_clearing : Book → Clearing
cut_clearing B = record { accepted = turn (network_of B) (cut_used B); flow = by_pools B (line_flow (network_of B) (cut_used B)) }

module _ (B : Book) (ok : Sound B) where
  pub within_cuts : WithinCuts (network_of B) (cut_used B)
  within_cuts = best_within_cuts (network_of B) (network_sound B ok) (before B) (before_strict_total B ok)

  pub turned_back : (i : ℕ) → i < B.n → turn (network_of B) (turn (network_of B) (cut_used B)) i ≡ cut_used B i
  turned_back i l = turn_turn (network_of B) (cut_used B) i (within_cuts.sizes i l)

  cut_used_lem : (i : ℕ) → i < B.n → used B (cut_clearing B).accepted i ≡ cut_used B i
  cut_used_lem i l = used_is B (cut_clearing B).accepted i ∙ turned_back i l

  cut_amounts : FeasibleAmounts (network_of B) (turn (network_of B) (cut_used B)) (line_flow (network_of B) (cut_used B))
  cut_amounts = best_clearing (network_of B) (network_sound B ok) (before B) (before_strict_total B ok) (λ i. raised_price B i) (before_rises B ok)

  pub cut_feasible : Feasible B (cut_clearing B)
  cut_feasible = network_feasible B ok (turn (network_of B) (cut_used B)) (line_flow (network_of B) (cut_used B)) cut_amounts

  pub cut_best : Best B (cut_clearing B)
  cut_best = record {
    feasible = cut_feasible;
    greatest = λ d h. no_greater B ok (used B d.accepted) (used B (cut_clearing B).accepted) (λ i l e.
        let same : (j : ℕ) → j < B.n → before B j i ≡ true → turn (network_of B) d.accepted j ≡ cut_used B j
        = λ j r b. sym (used_is B d.accepted j) ∙ e j r b ∙ used_is B (cut_clearing B).accepted j ∙ turned_back j r in
        omega (
          arith,
          used_is B d.accepted i,
          used_is B (cut_clearing B).accepted i,
          turned_back i l,
          best_greatest (network_of B) (network_sound B ok) (before B) (before_strict_total B ok) (turn (network_of B) d.accepted) (by_lines B d.flow)
              (clearing_feasible (network_of B) d.accepted (by_lines B d.flow) (feasible_network B ok d h)) i l same,
        ));
  }

  -- every best clearing uses what the cuts give
  pub best_used_lem : (c : Clearing) → Best B c → (i : ℕ) → i < B.n → used B c.accepted i ≡ cut_used B i
  best_used_lem c b i l =
      no_greater_antisymmetric B ok (used B c.accepted) (used B (cut_clearing B).accepted) (cut_best.greatest c b.feasible) (b.greatest (cut_clearing B) cut_feasible) i l
      ∙ cut_used_lem i l

  pub cut_permitted : Permitted B (cut_clearing B)
  cut_permitted = record {
    feasible = cut_feasible;
    one_way = grid_one_way B.n B.m (λ i. size B i) (λ i. pool_index B i) (λ i. purchase B i) (λ k. capacity B (k / B.m) (k % B.m)) (cut_used B) within_cuts;
  }

  -- ---- welfare

  -- at raised prices, welfare is what the purchases pay less what the sales take
  welfare_read : (c : Clearing) → Feasible B c
      → positive_part (welfare B c.accepted) + taken (network_of B) (λ i. raised_price B i) c.accepted
      ≡ paid (network_of B) (λ i. raised_price B i) c.accepted + negative_part (welfare B c.accepted)
  unfolding welfare taken paid
  welfare_read c h =
      omega (
        arith,
        subtract_read (sum_z B.n (λ i. cond (purchase B i) (value B c.accepted i) (pos 0))) (sum_z B.n (λ i. cond (sale B i) (value B c.accepted i) (pos 0))),
        sum_read B.n (λ i. purchase B i) (λ i. price B i) c.accepted (λ i. raised_price B i) price_limit (price_raised B ok),
        sum_read B.n (λ i. sale B i) (λ i. price B i) c.accepted (λ i. raised_price B i) price_limit (price_raised B ok),
        traded,
      )
    where
      traded : sum_to B.n (λ i. on (sale B i) (c.accepted i)) ≡ sum_to B.n (λ i. on (purchase B i) (c.accepted i))
      traded = unfold sold_in bought_in in sold_bought (network_of B) (network_sound B ok) c.accepted (by_lines B c.flow) (feasible_network B ok c h)

  pub cut_welfare : (d : Clearing) → Feasible B d → welfare B d.accepted ≤ℤ welfare B (cut_clearing B).accepted
  cut_welfare d h =
      le_read (welfare B d.accepted) (welfare B (cut_clearing B).accepted)
      (omega (
        arith,
        welfare_read d h,
        welfare_read (cut_clearing B) cut_feasible,
        best_welfare (network_of B) (network_sound B ok) (before B) (before_strict_total B ok) (λ i. raised_price B i) (before_rises B ok) (2 * price_limit) ok.price_small
            d.accepted (by_lines B d.flow) (feasible_network B ok d h),
      ))
