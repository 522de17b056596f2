-- Readings of a sheet, what is known of one that is opened, and what is opened of one that holds a book's best clearing.
pub mod Readings
pub mod Openable
pub mod Opened
