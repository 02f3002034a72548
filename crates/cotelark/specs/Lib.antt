-- What the contracts of the C interface cite.
pub mod Replies
