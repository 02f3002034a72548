-- What the contracts of `field` cite.
pub mod Field
