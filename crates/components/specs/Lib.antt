-- What the contracts of `words`, `fold` and `signature` cite of an object, and the relations by which it is folded.
pub mod Objects
pub mod Components
pub mod Relations
pub mod Windows
pub mod Words
