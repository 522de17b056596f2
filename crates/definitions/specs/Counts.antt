-- Counts that are not refused are within the limits: what the type `Counts` keeps, for the proofs of other crates.
use Rattle.std.specs.Prelude.{◌≤◌}
use Rattle.definitions.specs.declared.Counts.{Counts}
use Rattle.definitions.specs.Limits.{bid_limit, pool_limit}

pub bids_fit : (counts : Counts) → counts.n ≤ bid_limit
bids_fit counts = counts.bids_fit

pub some_pools : (counts : Counts) → 1 ≤ counts.m
some_pools counts = counts.some_pools

pub pools_fit : (counts : Counts) → counts.m ≤ pool_limit
pools_fit counts = counts.pools_fit
