-- The laws of a backup.
pub mod Opened
pub mod Sameness
pub mod Entered
pub mod Pages
pub mod Storing
pub mod Alike
pub mod Bounds
pub mod Answers
