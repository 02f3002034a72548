-- The laws of sums are those of `components`.
-- Assumes nothing.
pub use Rattle.components.proofs.Totals.{total_same, total_parts, total_image, total_below}
