-- What the results of values stand for.
pub mod Faults
-- The faults of the statement at an index of a unit, by the tables before it.
pub mod FaultsAt
-- What is kept of a source beside its statements.
pub mod Filled
-- Where the statements of a source stand in its object.
pub mod Items
-- The digits of a number of any length, mixed into 64 bits.
pub mod Mixed
-- The numeric labels of a number in little memory: their ordinals one by one, and their places run by run.
pub mod NumericLabels
-- What the options of the code stand for.
pub mod Options
-- What the sections of the code stand for.
pub mod Sections
-- What the tables of the code stand for.
pub mod Tables
-- What a unit and a scope show.
pub mod Unit
