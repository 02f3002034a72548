-- The laws of components, from sums and symbols up to folds.
pub mod Totals
pub mod Components
pub mod Octets
pub mod Folds
pub mod Pairs
pub mod Windows
pub mod Relations
pub mod Words
pub mod Division
