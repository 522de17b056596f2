-- The test of feasibility is what it tests: it holds exactly if the numbers sent are those of a feasible clearing (`numbers_feasible`,
-- `feasible_numbers_lem`).
use Rattle.std.specs.Prelude.{ℕ, ◌≤◌, ◌<◌, ◌≡◌, true, List, ℤ, nat_abs, refl, pos}
use Rattle.std.proofs.Common.{sym, ap, eq-eqb, eqb-true}
use Rattle.definitions.specs.Arithmetic.{all_to, within}
use Rattle.definitions.specs.Book.{Book, size, capacity}
use Rattle.definitions.specs.Checks.{amount_sent, flow_sent, clearing_of, amounts_within, flows_within, balanced, balanced_at, feasible_numbers, SentAs}
use Rattle.definitions.specs.Clearing.{Clearing, Feasible}
use Rattle.laws.specs.AcceptedBook.{from_zero, within_from_zero}
use Rattle.laws.specs.All.{all_to_at, all_to_made}
use Rattle.std.specs.Cmp.{first_so, second_so}
use Rattle.theory.specs.SameClearing.{feasible_same_clearing}

module _ (B : Book) (amounts flows : List ℤ) where
  abbrev given : Clearing
  given = clearing_of B.m amounts flows

  pub numbers_feasible : feasible_numbers B amounts flows ≡ true → SentAs B amounts flows (clearing_of B.m amounts flows) × Feasible B (clearing_of B.m amounts flows)
  unfolding feasible_numbers amounts_within flows_within balanced balanced_at
  numbers_feasible e =
      let amounts_pass = first_so (amounts_within B amounts) _ e in
      let rest = second_so (amounts_within B amounts) _ e in
      let flows_pass = first_so (flows_within B flows) _ rest in
      let pools_pass = second_so (flows_within B flows) _ rest in
      let amount : (i : ℕ) → i < B.n → (amount_sent amounts i ≡ pos (given.accepted i)) × (given.accepted i ≤ size B i)
      = λ i l. from_zero (size B i) (amount_sent amounts i) (all_to_at B.n _ amounts_pass i l) in
      let flow : (a b : ℕ) → a < B.m → b < B.m → (flow_sent B.m flows a b ≡ pos (given.flow a b)) × (given.flow a b ≤ capacity B a b)
      = λ a b l r. from_zero (capacity B a b) (flow_sent B.m flows a b) (all_to_at B.m _ (all_to_at B.m _ flows_pass a l) b r) in (
        record { amounts_are = λ i l. (amount i l).0; flows_are = λ a b l r. (flow a b l r).0 },
        record {
          amounts = λ i l. (amount i l).1;
          flows = λ a b l r. (flow a b l r).1;
          balance = λ p l. eqb-true _ _ (all_to_at B.m _ pools_pass p l);
        },
      )

  -- numbers that are a clearing's are the clearing of their sizes
  pub same_amounts : (c : Clearing) → SentAs B amounts flows c → (i : ℕ) → i < B.n → c.accepted i ≡ (clearing_of B.m amounts flows).accepted i
  same_amounts c s i l = sym (ap nat_abs (s.amounts_are i l))

  same_flows : (c : Clearing) → SentAs B amounts flows c → (a b : ℕ) → a < B.m → b < B.m → c.flow a b ≡ given.flow a b
  same_flows c s a b l r = sym (ap nat_abs (s.flows_are a b l r))

  pub feasible_numbers_lem : (c : Clearing) → SentAs B amounts flows c → Feasible B c → feasible_numbers B amounts flows ≡ true
  unfolding feasible_numbers amounts_within flows_within balanced balanced_at
  feasible_numbers_lem c s f =
      let sized = feasible_same_clearing B c given (same_amounts c s) (same_flows c s) f in
      rw (
        all_to_made B.n (λ i. within (pos 0) (pos (size B i)) (amount_sent amounts i)) (λ i l. within_from_zero (size B i) (c.accepted i) _ (s.amounts_are i l) (f.amounts i l)),
        all_to_made B.m (λ a. all_to B.m (λ b. within (pos 0) (pos (capacity B a b)) (flow_sent B.m flows a b)))
            (λ a l. all_to_made B.m _ (λ b r. within_from_zero (capacity B a b) (c.flow a b) _ (s.flows_are a b l r) (f.flows a b l r))),
        all_to_made B.m (balanced_at B given) (λ p l. eq-eqb _ _ (sized.balance p l)),
      ) refl
