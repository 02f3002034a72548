-- What the contracts of `listing` cite.
pub mod Digits
pub mod Lines
pub mod Writers
