-- Invariant: the pools passed are in balance.
use Rattle.std.proofs.Common.{◌≡◌, true}
use Rattle.definitions.specs.Arithmetic.{all_to}
use Rattle.feasible.specs.Tests.{pool_balanced}
use Rattle.feasible.proofs.is_balanced.Given as goal

abbrev pub invariant-loop-p : goal.invariant-loop-p
invariant-loop-p l = all_to l.p (pool_balanced l.book.m l.book.bids.now l.sent.amounts.now l.sent.flows.now) ≡ true
