-- The tests of feasibility as the code makes them, and what they say.
pub mod Tests
