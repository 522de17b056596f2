-- What a word of a text is, and the stage that a text has come to after each.
pub mod Words
pub mod Values
pub mod Counting
pub mod Stages
