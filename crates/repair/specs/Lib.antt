-- What a change of one symbol is, and what repair answers and leaves, for every input.
pub mod Changes
pub mod Repairs
