-- What the proofs cite.
pub mod Sealable
