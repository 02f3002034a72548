-- What a backup is, and what a store makes of it.
pub mod Openings
pub mod Backups
