-- The laws of symbols made of octets are those of `components`.
-- Assumes nothing.
pub use Rattle.components.proofs.Octets.{GF16_symbol, low_first_lt, symbol_element, append_octets, take_octets, drop_octets, low_bytes_octets}
