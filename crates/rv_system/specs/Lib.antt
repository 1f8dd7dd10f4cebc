-- The lines that say why something is refused.
pub mod Messages
-- A text without its colours.
pub mod Unpainted
-- A text with whole colours in it, whatever comes after.
pub mod Painting
