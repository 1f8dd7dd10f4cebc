-- The sums over events, one event after the other.
pub mod TotalsLemmas
-- How often instructions were executed, branched and were called, with one event more.
pub mod CountedLemmas
-- The sums over the rows of a table, with one event more.
pub mod RowsLemmas
-- The depth of the stack, with one event more.
pub mod DepthLemmas
-- All that is counted, with one event more.
pub mod CountsLemmas
-- The registers that the events of a run tell.
pub mod RegistersLemmas
-- Sums by a key: where the rows of one are, and that a list has each once.
pub mod SumsLemmas
