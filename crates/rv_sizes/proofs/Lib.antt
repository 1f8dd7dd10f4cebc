-- What a pass that sets one statement's size leaves as it is.
pub mod PlacesLemmas
-- The first table, from the last statement to the first.
pub mod FirstTableLemmas
-- Statements stay when another is put behind them.
pub mod PackingLemmas
