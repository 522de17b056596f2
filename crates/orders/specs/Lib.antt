-- What the code of the orders cites: sets of pools, orders over names, the shape of a phase, the tables, the walk through them, cells, what is answered at
-- a position, the plan's run, and its bytes.
pub mod Limits
pub mod Digits
pub mod Families
pub mod Named
pub mod Shaped
pub mod Tables
pub mod Stretches
pub mod Steps
pub mod Cells
pub mod Answer
pub mod Runs
pub mod Plans
pub mod Calls
