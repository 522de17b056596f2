-- What the proofs cite, and the theorem on equal views.
pub mod Viewing
pub mod SameView
