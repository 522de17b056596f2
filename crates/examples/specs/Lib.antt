-- Document 01's proved examples and edges, and those of the hundredths.
pub mod Examples
