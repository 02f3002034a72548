-- What the contracts of `units`, and of every crate above it, cite.
pub mod Counts
pub mod Sizes
pub mod Refusals
pub mod Writing
pub mod Runs
pub mod Filling
pub mod Naming
pub mod Answers
