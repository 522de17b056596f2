-- What the proofs of the functions share.
pub mod Places
pub mod Steps
pub mod Stores
