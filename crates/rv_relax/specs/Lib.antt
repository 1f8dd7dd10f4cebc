-- What is kept of the paddings of sections.
pub mod Kept
-- Paddings in the order of their places.
pub mod Paddings
-- The table by which new offsets are looked up: paddings in the order of their places.
pub mod Pieces
-- The sites of a text, as `TextLine` has them: what `IsInput` says, site by site, as tests.
pub mod TextLine
-- What plans say is kept.
pub mod Plan
-- What a plan tells of its text by number: of each call and of each alignment.
pub mod Told
-- Sections for worked numbers.
pub mod Worked
-- The bytes of the calls of a text after relaxation, one after another.
pub mod CallSizes
