-- One name more that a map shows.
mod AddingLemmas
-- What names mean of an object of which calls are cut short.
mod CutsLemmas
-- Objects whose symbols stand where they end: their names mean the same, and their sections are the same.
pub mod EndsLemmas
-- Where a run begins: at what `_start` means.
mod EntryLemmas
-- Whether a symbol of a file is the definition that its name means, as the table tells.
mod ExportedLemmas
-- What is known of each name that a map shows.
mod KnownLemmas
-- What a symbol means: its definition, and the address and the place of that.
mod MeantLemmas
-- The extents of symbols, one after another.
mod ReachLemmas
-- Where no reference is undefined, each has an address.
mod ResolvedLemmas
