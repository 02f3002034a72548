-- What the contracts of `fold` cite.
pub mod Folding
