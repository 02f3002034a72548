-- The laws of a component are those of `components`.
-- Assumes nothing.
pub use Rattle.components.proofs.Components.{Elements, component_one, component_element, component_same}
