-- What a step makes of a hart has nothing to do with what was written.
pub mod QuietLemmas
-- Going on from a state of a run leads to another.
pub mod ReplayedLemmas
-- States that are kept, when some are dropped or one is added.
pub mod KeptLemmas
-- What no step of a run changes, and no piece of a snapshot.
mod KeepsLemmas
-- The numbers of a snapshot's head, read and written.
mod WordsLemmas
-- Pieces put into memory, one after the other.
mod PieceLemmas
-- The state of a snapshot, part by part.
mod StateLemmas
-- What pieces make of an image's memory, with one more piece, and with more.
mod MakeLemmas
-- The memory of an image: what of it may be written, and what stands there.
mod ImageLemmas
-- Pieces of segment after segment, and then of the stack, make the machine's memory.
mod ReachLemmas
-- The numbers of a head, of which the hart is made.
mod HeadLemmas
