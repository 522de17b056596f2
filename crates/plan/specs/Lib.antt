-- Orders over names: their run, loops of them, what is held before and after, sums and extremes in a cell.
pub mod Orders
pub mod Residues
pub mod Names
pub mod Loops
pub mod Subsets
pub mod Running
pub mod Entries
-- The table of phases, and its blocks of orders.
pub mod Phased
pub mod Blocks
pub mod Table
-- Names as cells of the sheet: the list of the machine's orders, its length and its form.
pub mod Layout
pub mod Numbered
pub mod Plan
