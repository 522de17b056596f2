-- How large the numbers of a phase are, at the limits of the counts.
use Rattle.std.specs.Prelude.{ℕ, ◌+◌, ◌*◌}
use Rattle.definitions.specs.declared.Counts as unit
use Rattle.definitions.specs.Counts.{bids_fit, some_pools, pools_fit}
use Rattle.laws.specs.Sizes.{Counts}
use Rattle.definitions.specs.Limits.{bid_limit, pool_limit, cell_count}

-- how many parts a row has at most
abbrev pub part_limit : ℕ
part_limit = 4

-- how many orders a block has at most: as many as a cut's
abbrev pub turn_limit : ℕ
turn_limit = 1 + pool_limit * pool_limit

-- how many a part of a row has, whose columns are at most the cells of the sheet
abbrev pub stretch_limit : ℕ
stretch_limit = cell_count * turn_limit

-- how many a row has
abbrev pub row_limit : ℕ
row_limit = part_limit * stretch_limit

-- how many a phase has
abbrev pub phase_limit : ℕ
phase_limit = bid_limit * row_limit

-- counts that are not refused
pub limited : (c : unit.Counts) → Counts c.n c.m
limited c = record { bids = bids_fit c; pools = record { least = some_pools c; most = pools_fit c } }
