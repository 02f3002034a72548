-- An object's bytes and symbols are those of `components`.
pub use Rattle.components.specs.Objects.{Octets, symbols}
unfoldable pub use Rattle.components.specs.Objects.{low_first, low_bytes, symbol}
