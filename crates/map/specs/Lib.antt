-- What the contracts of `map` cite, and what its promises speak of.
pub mod Buckets
pub mod Files
pub mod Reading
pub mod Making
