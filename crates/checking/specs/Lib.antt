-- What the code tests is what yes says; and what the unit clears passes.
pub mod Checked
pub mod OwnPasses
