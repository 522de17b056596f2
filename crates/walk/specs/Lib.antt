-- A host's walk through a plan from call to call, and what it sends.
pub mod Walk
pub mod Sequence
