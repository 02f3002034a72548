-- The theorems on repairs: of one page, and of a page of a backup.
pub mod Restoring
pub mod Repairing
pub mod Mistaken
