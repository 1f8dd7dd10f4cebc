-- No name is both that of a label and one that is set.
mod ApartLemmas
-- One name more that is bound.
mod BoundLemmas
-- The unit of a list of statements says those of the list that it was made of.
mod BuiltLemmas
-- The first fault, statement by statement.
mod CheckedLemmas
-- An expression whose constant is wanted has it by the statements before it alone, and by all of the source.
pub mod ConstantsLemmas
-- Numbers by their digits, from the last digit on.
mod DigitsLemmas
-- What values are where each name is open, and where each has a place: a difference there has no fault here.
mod DistancesLemmas
-- One value more.
mod EachLemmas
-- Tables that are filled statement by statement.
pub mod FillingLemmas
-- What a `.set` gives, by the value of its expression.
mod GivesLemmas
-- Statements of the code that are instructions.
mod InstructionsLemmas
-- What look-ups by name and searches of the code find.
pub mod LookupsLemmas
-- The lowest of codes in two lists.
mod LowestLemmas
-- Numeric labels by their numbers, and in the order of their ordinals: one more, and what is found.
mod NumberedLemmas
-- Things in the order of their ordinals: the last of them, the first after an ordinal, the last before one.
pub mod OrderedLemmas
-- The tables of the first statements.
pub mod PassedLemmas
-- Values whose names have places, as none is set.
mod PlacesLemmas
-- Numeric labels whose places are kept in runs.
mod RunsLemmas
-- What names mean and where they stand, in a statement of a unit.
mod ScopedLemmas
-- Sizes that a number shows, or as many as it can.
mod SizedLemmas
-- The statement at an index, by the tables of the whole source.
pub mod StandingLemmas
