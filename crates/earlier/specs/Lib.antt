-- What was: limits, books, best clearings and refusals as they stood with three numbers a bid. The sums, tests and the form of a refusal that they speak
-- of have not changed and are those of definitions (Arithmetic, Answers). Then what is said of it.
pub mod Limits
pub mod Book
pub mod Clearing
pub mod Calls
pub mod Earlier
pub mod Widened
pub mod AsBefore
