-- A sheet holds residues exactly if no cell is refused; and what is said of a book's counts and lengths.
pub mod Cells
pub mod Tables
