-- When an order runs and what a step leaves (Step), and what the machine's functions and its callers cite of one order and of a list of orders.
pub mod Step
pub mod Parts
pub mod Run
