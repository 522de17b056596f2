-- Laws that the proofs cite, and computed facts.
pub mod Summing
pub mod SumFacts
