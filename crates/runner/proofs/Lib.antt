-- What the proofs of the runner share.
pub mod Turns
