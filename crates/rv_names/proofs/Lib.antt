-- What names mean does not depend on where definitions stand, nor on which sections are dropped.
pub mod AlikeLemmas
-- The symbol that a name means in all files is that of its first definition.
pub mod ChosenLemmas
-- A name that stands twice, and names of which none does.
mod DistinctLemmas
-- The table while definitions come to it: one symbol more of a file, and one file more.
mod LoadingLemmas
-- What is known of a name that a symbol of an earlier row has.
mod RememberedLemmas
-- The table of what symbols mean: one element more, and what it answers.
mod RowsLemmas
-- One definition more in the table.
mod TableLemmas
