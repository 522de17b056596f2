-- No two families have the same number.
use Rattle.std.specs.Prelude.{◌≡◌, refl, true, eqb}
use Rattle.std.proofs.Common.{sym, ap, ◌∙◌, eqb-true}
use Rattle.plan.specs.declared.Family.{Family}
use Rattle.plan.specs.declared.Family.TheVariants.{Bids, Capacities, Amounts, Flows, Prices, Temporaries, ZeroCells, Units, Hundreds, Shifts, Tops, PoolNumbers, Sides, Sizes, RaisedWholes, RaisedPrices, Doubles, Keys, Nexts, Memberships, PoolSizes, Demands, Subsets, Cuts, SizesBefore, RanksBefore, SizesWith, RanksWith, Uses, Placements, Slacks, SlackTests, ReachTests, Margins, PoolMargins, BestMargins, PriceTests, PoolWholes}
use Rattle.plan.specs.Names.{number, family_at}

pub at_number : (f : Family) → family_at (number f) ≡ f
at_number Bids = refl
at_number Capacities = refl
at_number Amounts = refl
at_number Flows = refl
at_number Prices = refl
at_number Temporaries = refl
at_number ZeroCells = refl
at_number Units = refl
at_number Hundreds = refl
at_number Shifts = refl
at_number Tops = refl
at_number PoolNumbers = refl
at_number Sides = refl
at_number Sizes = refl
at_number RaisedWholes = refl
at_number RaisedPrices = refl
at_number Doubles = refl
at_number Keys = refl
at_number Nexts = refl
at_number Memberships = refl
at_number PoolSizes = refl
at_number Demands = refl
at_number Subsets = refl
at_number Cuts = refl
at_number SizesBefore = refl
at_number RanksBefore = refl
at_number SizesWith = refl
at_number RanksWith = refl
at_number Uses = refl
at_number Placements = refl
at_number Slacks = refl
at_number SlackTests = refl
at_number ReachTests = refl
at_number Margins = refl
at_number PoolMargins = refl
at_number BestMargins = refl
at_number PriceTests = refl
at_number PoolWholes = refl

-- no two families have the same number
pub number_same : (f g : Family) → number f ≡ number g → f ≡ g
number_same f g e = sym (at_number f) ∙ ap family_at e ∙ at_number g

pub family_equal : (f g : Family) → eqb (number f) (number g) ≡ true → f ≡ g
family_equal f g e = number_same f g (eqb-true (number f) (number g) e)
