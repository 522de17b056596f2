-- What is proved of the runner's definitions.
pub mod Left
pub mod Runs
