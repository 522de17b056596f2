-- What was, under one name: with `use Rattle.earlier.specs.Earlier as earlier`, `earlier.Best` is which clearing was best.
pub use Rattle.earlier.specs.Book.{Book, pool, price, quantity, purchase, sale, size, in_pool}
pub use Rattle.earlier.specs.Clearing.{Clearing, Feasible, value, NoGreater, equal, less, Best}
unfoldable pub use Rattle.earlier.specs.Clearing.{sold, bought, inflow, outflow, welfare, before, used}
pub use Rattle.earlier.specs.Calls.{bid_fault, AcceptedBook}
unfoldable pub use Rattle.earlier.specs.Calls.{first_from, bids_refusal, row_refusal, capacities_refusal, seal_refusal}
