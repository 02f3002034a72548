-- The laws of signatures, from sums and symbols up.
pub mod Totals
pub mod Counting
pub mod Components
pub mod Octets
pub mod Numbers
pub mod Handing
pub mod Vanishing
pub mod Parts
pub mod Joining
pub mod Editing
pub mod Edited
pub mod Differing
pub mod Detection
pub mod EveryKind
pub mod Answers
