-- What the proofs of the calls share, and the host's walk by computation.
pub mod Numbers
pub mod WalkFacts
pub mod ReadBack
pub mod Walk
