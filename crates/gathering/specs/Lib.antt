-- Counts of bytes in a buffer that is lent.
pub mod Counts
