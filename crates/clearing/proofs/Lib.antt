-- Laws that the proofs cite, demand 3, and the same of the column plan.
pub mod Sealing
pub mod Demand3
pub mod SealedColumns
pub mod ColumnDemand3
