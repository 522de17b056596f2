-- What settle reads and what it is to print.
pub mod Turns
pub mod Parts
pub mod Whole
