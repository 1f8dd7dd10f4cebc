-- The lower half is a number of twelve bits with sign, and its field that number in two's complement.
mod FieldsLemmas
-- Parcels whose offsets are set.
mod ParcelsLemmas
-- The laws, a line a format.
mod FormatsLemmas
-- The form of each instruction that an operation writes is that of the operation's format, with its selectors.
mod FormsLemmas
-- One open field, and the two of a call.
pub mod OneLemmas
-- All parts of a statement, one after another.
pub mod AllLemmas
-- In the code of statements only calls have two instructions that are filled as one.
pub mod RowsLemmas
