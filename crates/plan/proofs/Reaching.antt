-- The phases that fill the slack tests and the reach tests, which read the slacks as they are before the first line.
use Rattle.std.specs.Prelude.{◌≡◌, Bool, true, false, not, ◌&&◌, ◌||◌, [], ◌∷◌, ℕ, ◌*◌, ◌^◌, ◌/◌, ◌%◌, ◌<◌, ltb}
use Rattle.std.proofs.Common.{refl, sym, ◌∙◌, arith, lit<, lit≤}
use Rattle.definitions.specs.Arithmetic.{on}
use Rattle.definitions.specs.Book.{Book}
use Rattle.definitions.specs.Machine.{times}
use Rattle.laws.specs.Tests.{on_le}
use Rattle.laws.specs.AcceptedBook.{Sound}
use Rattle.theory.specs.Choices.{on_and}
use Rattle.theory.proofs.ClosedBest.{slack_small}
use Rattle.plan.specs.Orders.{run, State}
use Rattle.plan.specs.Residues.{times_on, less_small}
use Rattle.plan.specs.Loops.{loop, writes_loop, eqb_same}
use Rattle.plan.proofs.Holds.{Holds, Phase, holds_keep, touches, fill_column}
use Rattle.plan.specs.Names.{ZeroCells, Units, Slacks, SlackTests, ReachTests, ReachTest}
use Rattle.plan.specs.Subsets.{leaves}
use Rattle.plan.specs.Running.{Conjoins, conjoin}
use Rattle.plan.proofs.Values.{cell_tables, slack, slack_after, unparted, reached}
use Rattle.plan.specs.Blocks.{slack_test_block, reach_start, reach_cell, reach_turn}
use Rattle.plan.specs.Table.{reach_block}

-- two tests as a product
both_tests : (s t : Bool) → times (on s 1) (on t 1) ≡ on (s && t) 1
both_tests s t = times_on s (on t 1) (omega (arith, on_le t 1)) ∙ sym (on_and s t 1)

module _ (B : Book) (sound : Sound B) where
  pub slack_test_phase : Phase (cell_tables B) (Slacks ∷ ZeroCells ∷ []) SlackTests [] (loop (2 ^ B.m) slack_test_block)
  unfolding slack_after
  slack_test_phase = fill_column (cell_tables B) (Slacks ∷ ZeroCells ∷ []) SlackTests [] refl refl refl slack_test_block (λ S. rw (eqb_same S))
      (λ S t l h. rw (eqb_same S, h ZeroCells refl 0 0 (lit< tt) (lit< tt), h Slacks refl S 0 l (lit< tt))
      (less_small 0 (slack B S) (lit≤ tt) (omega (arith, slack_small B sound 0 S))))

  -- what a reach test reads
  abbrev HoldsTests : State → Type 0
  HoldsTests = Holds (cell_tables B) (SlackTests ∷ Units ∷ [])

  module _ (l : ℕ) where
    reach_tests : (a b S : ℕ) → S < 2 ^ B.m → Conjoins HoldsTests (ReachTest l) (reach_turn l a b S) (unparted B a b S)
    reach_tests a b S c t x h e = (
      holds_keep (cell_tables B) (ReachTests ∷ []) (SlackTests ∷ Units ∷ []) refl (reach_turn l a b S) refl t h,
      rw (eqb_same l, e) (go (leaves S a b)),
    )
      where
        go : (w : Bool) → times (on x 1) (t (reach_cell w S)) ≡ on (x && (not w || ltb 0 (slack B S))) 1
        go true = rw (h SlackTests refl S 0 c (lit< tt)) (both_tests x (ltb 0 (slack B S)))
        go false = rw (h Units refl 0 0 (lit< tt) (lit< tt)) (both_tests x true)

    reach_value : (t : State) → l < B.m * B.m → HoldsTests t → run (reach_block B.n B.m l) t (ReachTest l) ≡ on (reached B (l / B.m) (l % B.m)) 1
    unfolding reached
    reach_value t _ h =
        (conjoin HoldsTests (ReachTest l) (2 ^ B.m) (reach_turn l (l / B.m) (l % B.m)) (unparted B (l / B.m) (l % B.m)) (reach_tests (l / B.m) (l % B.m))
        (run (reach_start l) t) (holds_keep (cell_tables B) (ReachTests ∷ []) (SlackTests ∷ Units ∷ []) refl (reach_start l) refl t h) (rw (eqb_same l))).1

  pub reach_phase_lem : Phase (cell_tables B) (SlackTests ∷ Units ∷ []) ReachTests [] (loop (B.m * B.m) (reach_block B.n B.m))
  reach_phase_lem = fill_column (cell_tables B) (SlackTests ∷ Units ∷ []) ReachTests [] refl refl refl (reach_block B.n B.m)
      (λ l. rw (eqb_same l) (writes_loop (touches ReachTests l []) (2 ^ B.m) (reach_turn l (l / B.m) (l % B.m)) (λ S _. rw (eqb_same l)))) reach_value
