-- What the contracts of `reader` cite.
pub mod Fields
pub mod Readers
