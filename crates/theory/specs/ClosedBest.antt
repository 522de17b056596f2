-- Two numbers that bound those of a plan.
use Rattle.std.specs.Prelude.{ℕ, ◌+◌, ◌*◌}
use Rattle.definitions.specs.Limits.{bid_limit, pool_limit, quantity_limit, capacity_limit}

-- all sizes together
abbrev pub size_total : ℕ
size_total = bid_limit * quantity_limit

-- all sizes and all capacities together; every cut and every slack stays below
abbrev pub amount_limit : ℕ
amount_limit = size_total + pool_limit * pool_limit * capacity_limit
