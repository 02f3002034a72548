-- The laws that belong to no one function.
pub mod Moduli
pub mod Pieces
pub mod Refusing
pub mod Writing
pub mod Runs
pub mod Filling
pub mod Naming
pub mod First
pub mod Noting
pub mod Answers
