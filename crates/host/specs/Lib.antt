-- What the calls leave, what the host reads from the bytes that it is given, its walk through the whole plan, and that a refusal's place is 0.
pub mod Calls
pub mod Numbers
pub mod Walk
pub mod Places
