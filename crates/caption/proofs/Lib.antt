-- The laws of the code, and what is promised of encode, decode and search.
pub mod Codes
pub mod Rows
pub mod Turns
pub mod Listing
pub mod Fields
pub mod Pairs
pub mod Finding
pub mod Allowing
pub mod Answers
