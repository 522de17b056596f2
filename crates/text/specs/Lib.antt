-- What settle's reader keeps of a text, and that a whole text gives what the documents say.
pub mod Reading
pub mod Steps
pub mod Texts
pub mod Pieces
pub mod Broken
