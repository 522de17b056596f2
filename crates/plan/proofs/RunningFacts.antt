-- The sums over all subsets of cells, one after another (`subset_sums`).
use Rattle.std.specs.Prelude.{◌≡◌, ◌⊎◌, Bool, false, [], ◌∷◌, ℕ, suc, ◌^◌, ◌<◌}
use Rattle.std.proofs.Common.{sym, ◌∙◌, inl, inr, eq-or-lt_of_le, le_of_suc-le-suc, not-suc-le-zero, arith, ne_eqb}
use Rattle.definitions.specs.Limits.{modulus}
use Rattle.definitions.specs.Arithmetic.{sum_to}
use Rattle.laws.specs.Tests.{Eq?, same, diff, eq?}
use Rattle.plan.specs.Orders.{State, run}
use Rattle.plan.specs.Residues.{plus_small}
use Rattle.plan.specs.Loops.{loop, loop_invariant, among, eqb_same}
use Rattle.plan.specs.Names.{Name, Subsets, Subset}
use Rattle.plan.specs.Subsets.{subset_sum, lowest, others, lowest_below, others_below, lowest_sum, subset_empty, subset_le}
use Rattle.plan.proofs.LoopFacts.{keep}
use Rattle.plan.specs.Running.{subset_order, subset_block, subset_frame}

module _ (m : ℕ) (X : ℕ → Name) (clear : (p : ℕ) → among (Subsets ∷ []) (X p) ≡ false) (x : ℕ → ℕ) (small : sum_to m x < modulus) where
  -- the cells X hold x, and the sums of the first K sets are made
  abbrev Known : ℕ → State → Type 0
  Known K t = ((p : ℕ) → p < m → t (X p) ≡ x p) × ((S : ℕ) → S < K → t (Subset S) ≡ subset_sum m x S)

  subset_turn : (S : ℕ) (t : State) → S < 2 ^ m → Known S t → Known (suc S) (run (subset_block m X S) t)
  subset_turn S t a k = (
    λ p l. keep (among (Subsets ∷ [])) (subset_block m X S) (X p) t (subset_frame m X S) (clear p) ∙ k.0 p l,
    λ R l. go R (eq-or-lt_of_le (le_of_suc-le-suc l)) (eq? S 0),
  )
    where
      go : (R : ℕ) → (R ≡ S) ⊎ (R < S) → {z : Bool} → Eq? S 0 z → run (subset_order z m X S ∷ []) t (Subset R) ≡ subset_sum m x R
      go R (inl e) (same z) = rw (e, eqb_same S, z) (sym (subset_empty m x))
      go R (inl e) (diff z) =
          rw (e, eqb_same S, k.1 (others m S) (others_below m S (omega arith) a), k.0 (lowest m S) (lowest_below m S (omega arith) a))
          (plus_small (subset_sum m x (others m S)) (x (lowest m S)) (omega (arith, small, subset_le m x S, lowest_sum m x S (omega arith) a)) ∙ sym (lowest_sum m x S (omega arith) a))
      go R (inr l) (same z) = rw (ne_eqb S R (omega arith)) (k.1 R l)
      go R (inr l) (diff z) = rw (ne_eqb S R (omega arith)) (k.1 R l)

  pub subset_sums : (s : State) → ((p : ℕ) → p < m → s (X p) ≡ x p) → (S : ℕ) → S < 2 ^ m → run (loop (2 ^ m) (subset_block m X)) s (Subset S) ≡ subset_sum m x S
  subset_sums s e = (loop_invariant Known (2 ^ m) (subset_block m X) s (e, λ S l. absurd (not-suc-le-zero l)) subset_turn).1
