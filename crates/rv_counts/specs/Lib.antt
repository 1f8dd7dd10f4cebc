-- What instructions are for.
pub mod Kinds
-- What the counts of a run sum over its events.
pub mod Totals
-- How often the instructions of a run were executed, branched and were called: numbers of its events.
pub mod Counted
-- How deep the stack of a run went, by the values of sp that its events tell.
pub mod Depth
-- The rows of a table of instructions, and what they have of the events of a run.
pub mod Rows
-- The counts of mnemonics, lines and functions, as sums over the rows of a table.
pub mod Sums
