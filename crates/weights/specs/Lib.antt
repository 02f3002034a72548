-- What the contracts of `weights` cite.
pub mod Blocks
