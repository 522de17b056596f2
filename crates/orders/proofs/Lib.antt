-- Laws that the proofs cite.
pub mod Answers
pub mod Filling
