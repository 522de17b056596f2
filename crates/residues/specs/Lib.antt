-- Small whole numbers are read back from their residues.
pub mod Residues
