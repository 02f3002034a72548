-- The theorems on steps and stores.
pub mod Keeping
pub mod Mirroring
pub mod Walking
