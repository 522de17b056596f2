-- A book read with hundredths 0: its bid table, its bids, their prices, what refuses it, which clearing is best, what that is worth; the
-- theorem; what the unit clears; and single cases of the definitions as they stood.
pub mod Table
pub mod Bids
pub mod Prices
pub mod Refusals
pub mod Clearings
pub mod Welfare
pub mod AsBefore
pub mod Cleared
pub mod EarlierFacts
