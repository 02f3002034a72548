-- The laws of the loops that fold, and of what they leave.
pub mod Fars
pub mod Turns
pub mod Landings
pub mod Standing
pub mod Answers
