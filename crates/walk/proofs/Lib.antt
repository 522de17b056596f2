-- A host's walk by computation.
pub mod WalkFacts
pub mod Sequence
