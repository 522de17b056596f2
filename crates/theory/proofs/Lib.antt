-- The theorems that rest on the definitions of specs/: flows by rows, the closed forms, reach and the pool price.
pub mod Dictionary
pub mod CutClearing
pub mod BestClearing
pub mod ClosedBest
pub mod Ways
pub mod Reachable
pub mod PoolPrice
