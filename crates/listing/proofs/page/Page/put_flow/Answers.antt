-- `put_flow` meets its contract: of a flow above 0 the word with the first pool, the second pool and the last field, else nothing.
use Rattle.std.proofs.Common.{◌≡◌, ℕ, true, false, [], ◌++◌}
use Rattle.std.specs.Prelude.{ℤ, pos}
use Rattle.std.specs.Int.Signed.{lt_z}
use Rattle.definitions.specs.Settle.{decimal, space, line_word, flow_line}
use Rattle.laws.specs.SignedTests.{right}
use Rattle.listing.specs.Lines.{last_field, last_widened}
use Rattle.listing.specs.Page.{nothing, then_wrote, same_text}
use Rattle.listing.proofs.page.Page.put_flow.Goals as goal

-- the line by the test on the flow
line : (from to : ℕ) (flow : ℤ) → lt_z (pos 0) flow ≡ true → (line_word ++ (space ++ decimal from)) ++ ((space ++ decimal to) ++ last_field flow) ≡ flow_line from to flow
unfolding flow_line
line from to flow e = simp e

no_line : (from to : ℕ) (flow : ℤ) → lt_z (pos 0) flow ≡ false → [] ≡ flow_line from to flow
unfolding flow_line
no_line from to flow e = simp e

pub returns-then-flow-gt-NO_FLOW : goal.returns-then-flow-gt-NO_FLOW
returns-then-flow-gt-NO_FLOW c =
    let a = c.args in
    same_text (line a.from a.to a.flow (right (pos 0) c.ranges.flow c.if-flow-gt-NO_FLOW.true))
    (then_wrote c.put_field.ensures (then_wrote c.put_field-then-flow-gt-NO_FLOW.ensures (same_text (last_widened c.ranges.flow c.from.ensures) c.put_last.ensures)))

pub returns-else-flow-gt-NO_FLOW : goal.returns-else-flow-gt-NO_FLOW
returns-else-flow-gt-NO_FLOW c = let a = c.args in same_text (no_line a.from a.to a.flow (right (pos 0) c.ranges.flow c.if-flow-gt-NO_FLOW.false)) (nothing a.self.now)
