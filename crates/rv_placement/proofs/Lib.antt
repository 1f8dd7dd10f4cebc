-- The multiple at which what is left of a section begins, and the greatest of sections.
pub mod AlignmentsLemmas
-- What is placed for each section, and its address.
pub mod FoundLemmas
-- Passes over sections: their ends only grow, and one step of a loop.
pub mod WalksLemmas
-- One section, and one file, more of the text's pass.
pub mod TextsLemmas
-- All sections have a layout.
pub mod LayoutsLemmas
-- The rows of objects, as they have moved.
pub mod MapRowsLemmas
-- A stable sort of rows by their ordinals gives the one list in order.
pub mod SortedLemmas
-- The placed paddings have room where those of the text's sections do.
pub mod RoomsLemmas
-- Paddings of a section that begins at a multiple of each of its alignments: they are the same wherever it stands.
pub mod AlignedLemmas
-- Whether the text's paddings have room, wherever its sections stand one behind the other.
pub mod RoomsStandLemmas
-- Passes over all sections place them as the layout says, or they are too large.
pub mod PlacedLemmas
-- The regions behind the text.
pub mod BehindLemmas
-- Passes over sections put them where the layout does.
pub mod StandingLemmas
