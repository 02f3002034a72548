-- The one table of the scope's starred numbers.
pub mod Table
