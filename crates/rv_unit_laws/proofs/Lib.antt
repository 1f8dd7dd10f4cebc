-- Searches in lists.
pub mod FoundLemmas
-- What tables have so far was defined before the next statement.
pub mod BeforeLemmas
-- No statement changes the bindings of names: they stand in the tables from the start.
pub mod BoundLemmas
-- A symbol in a value has the meaning that it has where it stands.
pub mod MeantLemmas
-- Sections that are entered.
pub mod EnteringLemmas
-- The labels and the assignments of tables after a statement: which of them it leaves alone.
pub mod AloneLemmas
-- What comes later changes nothing of what was defined before.
pub mod LaterLemmas
-- Sections that are open stay open, each at its index.
pub mod OpenedLemmas
-- A constant stays the same constant where its names that have no meaning get one.
pub mod SettledLemmas
-- What a statement adds to its section: bytes of data, and its alignment.
pub mod GrownLemmas
-- What the tables before a statement answer, asked of the tables of the whole source.
pub mod AskedLemmas
-- A source without a fault has no more statements than it may have.
pub mod FewLemmas
-- No section has more data than the longest may have.
pub mod ShortLemmas
-- What follows from the definitions of Offsets, for all who cite them.
pub mod OffsetsLemmas
-- What follows from the definitions of Tables, for all who cite them.
pub mod TablesLemmas
