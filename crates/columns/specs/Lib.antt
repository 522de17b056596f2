-- New numbers for a sheet's cells: what any orders do on two sheets that hold the same (Renumbering), the cells by columns, and the column plan.
pub mod Renumbering
pub mod Cells
pub mod Plans
