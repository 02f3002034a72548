-- What the theorems on stores speak of.
pub mod Signing
pub mod Mirrors
pub mod Walks
