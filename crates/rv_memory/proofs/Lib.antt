-- What rights, numbers and bytes at addresses are, range by range.
pub mod MemoryLemmas
-- What a memory that segments make has at an address, in a range, and after a write.
pub mod FlatLemmas
-- The segments of an image with the stack as one more segment: they lie apart, and make the memory of the image.
pub mod NewLemmas
-- Stretches of segments, before and after bytes are put.
pub mod StretchLemmas
-- Segments put in the order of their addresses, without those that have no bytes: the same memory.
mod OrderLemmas
-- The list of pages: what a search in it finds, a page added behind others, and the pages of one more segment.
mod PageLemmas
-- What a memory of pages knows of its segments, before and after bytes are put.
mod KnownLemmas
-- The part of the stack that is not made yet: what a memory has with it.
mod UnmadeLemmas
