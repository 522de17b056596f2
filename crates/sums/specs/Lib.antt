-- What changes hands in a pool, and welfare summed sales first, with its size.
pub mod BidsOnly
pub mod Sides
pub mod Pools
pub mod Welfare
pub mod SummedWelfare
