-- What the contracts of `signature` cite, and what its promises speak of.
pub mod Objects
pub mod Signatures
pub mod Kinds
pub mod Operations
pub mod Differences
pub mod Edits
