-- What the theorems on repairs speak of.
pub mod Damage
