-- The one theorem over the table.
pub mod Starred
