-- What the contracts cite (Answer, Written), and what is proved of document 01's bytes: over the groups of a number, for an order, for a list of orders.
pub mod Answer
pub mod Written
pub mod Groups
pub mod OrderBytes
pub mod OrderReadBack
pub mod OrderShortest
pub mod OrderAccepted
pub mod PlanBytes
pub mod Writes
pub mod Fitting
