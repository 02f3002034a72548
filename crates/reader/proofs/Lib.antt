-- The laws that belong to no one function.
pub mod Due
pub mod Answers
