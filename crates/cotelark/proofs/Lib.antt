-- What is proved of the C interface beside its functions.
pub mod Crossing
pub mod Parts
pub mod Answers
pub mod Statuses
