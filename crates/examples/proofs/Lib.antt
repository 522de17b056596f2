-- That they hold, and the rerouting of the costly mistakes.
pub mod Examples
pub mod Rerouting
