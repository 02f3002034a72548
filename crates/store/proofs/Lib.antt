-- The laws of steps and stores.
pub mod Passing
pub mod Opens
pub mod Underway
pub mod Tags
pub mod Answers
