-- The laws that belong to no one function.
pub mod Digits
pub mod Lengths
pub mod Pages
pub mod Texts
pub mod Writers
pub mod Values
pub mod Listings
