-- Laws that several proofs here cite.
pub mod Listed
pub mod Texts
