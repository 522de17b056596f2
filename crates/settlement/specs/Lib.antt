-- What settle prints for a text that was read, and for every text.
pub mod Settled
pub mod WholeText
pub mod Printed
