-- Orders over names, their loops and their layout.
pub mod NameFacts
pub mod LoopFacts
pub mod LayoutFacts
pub mod RunningFacts
pub mod Holds
-- What each family of cells holds, and how it is filled.
pub mod Values
pub mod Merit
pub mod Bounds
-- The law of each phase, and of all.
pub mod Bids
pub mod Cuts
pub mod Ranks
pub mod Reaching
pub mod Lines
pub mod Prices
pub mod Whole
-- Names as cells of the sheet: the list of the machine's orders, its length and its form.
pub mod Simulation
pub mod AnExample
pub mod Proper
pub mod PlanOrders
-- From the sealed sheet to the results.
pub mod SealedSheet
pub mod Sealed
pub mod Cleared
-- Asking at positions.
pub mod Asking
pub mod Collected
pub mod PlanFacts
