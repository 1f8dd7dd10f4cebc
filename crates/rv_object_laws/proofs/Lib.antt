-- The numbers of rows have the widths of their fields: one by one, and as a test.
pub mod CountedLemmas
-- Instructions without effect: how many bytes they have.
pub mod NopsLemmas
-- What follows from the definitions of Object, for all who cite them.
pub mod ObjectLemmas
-- What follows from the definitions of Valid, for all who cite them.
pub mod ValidLemmas
