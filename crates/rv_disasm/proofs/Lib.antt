-- Bytes begin with one instruction at most that a source can say.
pub mod CodesLemmas
-- The lines of a dump, one by one.
pub mod DumpLinesLemmas
-- Bytes that spell instructions, one behind another.
pub mod FittingLemmas
-- The line of bytes is that of the first four.
pub mod FourLemmas
-- A parcel spells one form at most that is no HINT.
pub mod OneFormLemmas
-- Bytes are those of one list of instructions at most, and an image has one raw listing at most.
pub mod RawLemmas
-- The name of a register.
pub mod RegistersLemmas
