-- The laws of sums that are not reduced yet, and of the words of an object.
pub mod Reducing
pub mod Sums
pub mod Reading
pub mod Dividing
pub mod Answers
