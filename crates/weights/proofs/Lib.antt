-- The laws of a block and its weights.
pub mod Turns
pub mod Moving
pub mod Answers
