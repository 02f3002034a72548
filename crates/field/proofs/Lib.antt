-- The laws of a field, from the sum's up; `Laws` has them together, `Instances` the two fields.
pub mod Sums
pub mod Additive
pub mod Reducing
pub mod Products
pub mod Pigeonhole
pub mod Powers
pub mod Tests
pub mod Orders
pub mod Instances
pub mod Laws
pub mod Answers
