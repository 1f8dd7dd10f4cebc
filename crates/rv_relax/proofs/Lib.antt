-- Alignments in the order of their places, from a list that stands from the last to the first.
pub mod SortingLemmas
-- The alignments of a section, as they have moved where calls are cut short.
pub mod MovedLemmas
-- The plan of alignments in order, padding by padding.
pub mod PlannedLemmas
-- The bytes that are kept, padding by padding.
pub mod KeptLemmas
-- Alignments with padding, apart from each other, that are sorted by their places stand as `by_place` has them.
pub mod ByPlaceLemmas
-- What `TextLine` holds of its sites is what a pass asks of them.
pub mod PlacingLemmas
-- Pieces in order: which end by an offset.
pub mod PiecedLemmas
-- Paddings in the order of their places: they are pieces, and what they drop and lack is what their moves do.
pub mod OrderLemmas
-- The instructions that paddings in order lose.
pub mod LosingLemmas
-- A byte that stands before another one stands before it afterwards.
pub mod RisingLemmas
-- What a plan keeps of paddings, section by section.
pub mod RoomsLemmas
-- The padding at a place, found where the places before it end.
pub mod PadsLemmas
-- The search for one of what is told of sections, one after another.
pub mod ToldLemmas
-- What a plan tells of calls is what relaxation keeps of them.
pub mod CallSizesLemmas
