-- Statements none of which is a branch have the least sizes: those that they have.
pub mod SettlingLemmas
-- Each statement stands in one of its file's sections.
pub mod HomesLemmas
-- In a source without faults each statement stands in a section that can hold it.
pub mod HeldLemmas
-- What stays of a statement whose section collection dropped: all but the address of its section.
pub mod LeftLemmas
-- What follows from the definitions of Located, for all who cite them.
pub mod LocatedLemmas
-- What follows from the definitions of Tables, for all who cite them.
pub mod TablesLemmas
