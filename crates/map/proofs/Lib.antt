-- The laws that belong to no one function.
pub mod Fields
pub mod Entries
pub mod Headers
pub mod Tagging
pub mod MadeMaps
pub mod Placed
pub mod Back
pub mod Contents
pub mod Readback
pub mod Octets
pub mod Maps
pub mod Holding
pub mod Passing
