-- What a refused book gives.
use Rattle.std.specs.Prelude.{pos}
use Rattle.clearing.specs.declared.Cleared.{Cleared}

-- "counts, welfare and next position are then 0", and so is the welfare of the sales alone
abbrev pub nothing_cleared : Cleared
nothing_cleared = record { orders = 0; welfare = pos 0; sales_welfare = pos 0 }
