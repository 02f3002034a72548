-- The laws of loading.
pub mod Answers
pub mod Damage
