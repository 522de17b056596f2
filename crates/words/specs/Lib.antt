-- The words that the program reads.
pub mod Words
