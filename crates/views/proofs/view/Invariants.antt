-- Invariant: `out` is the view by the first i entries of the table.
use Rattle.std.proofs.Common.{◌≡◌, take}
use Rattle.definitions.specs.Views.{view_of}
use Rattle.views.proofs.view.Given as goal

abbrev pub invariant-loop-i : goal.invariant-loop-i
invariant-loop-i l = l.out ≡ view_of (take l.i l.table) l.holder l.results
