-- What the contracts of `caption` cite, and what its promises speak of.
pub mod Codes
pub mod Pairs
pub mod Recoding
pub mod Searches
pub mod Blocks
