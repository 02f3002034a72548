-- The laws of changes and repairs, from a changed page up.
pub mod Changed
pub mod Naming
pub mod Checking
pub mod Finding
pub mod Tags
pub mod Mending
pub mod Lending
pub mod Answers
