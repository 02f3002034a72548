-- What a step and a whole store answer and leave, for every input.
pub mod Opens
pub mod Steps
pub mod Stores
