-- What the loads answer and leave, for every input.
pub mod Loads
