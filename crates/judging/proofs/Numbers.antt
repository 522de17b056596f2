-- A bid is judged by its numbers, whatever they are read from.
use Rattle.std.proofs.Common.{ℕ, ◌≡◌, ℤ}
use Rattle.definitions.specs.Answers.{Refusal, numbered}
use Rattle.definitions.specs.Calls.{bid_fault}

pub bid_moved : (m place : ℕ) {r : Refusal} {p p' q q' s s' h h' : ℤ} → p ≡ p' → q ≡ q' → s ≡ s' → h ≡ h' → r ≡ numbered (bid_fault m p q s h) place
    → r ≡ numbered (bid_fault m p' q' s' h') place
bid_moved m place f g k l e = cc (f, g, k, l, e)
