-- What is shown of views.
pub mod Places
pub mod SameView
pub mod Holders
