-- The numbers of a bid by their places.
pub mod Numbers
