-- What settle prints: the texts written to a lent slice, and the laws of writing them piece by piece.
pub mod Digits
pub mod Lines
pub mod Page
pub mod Prices
pub mod ReadBack
pub mod Room
pub mod Text
pub mod Written
