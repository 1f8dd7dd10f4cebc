-- The states of a run.
pub mod Replayed
-- States of a run that are kept.
pub mod Kept
-- What a replay has of the states of its run.
pub mod States
-- A state of a run as bytes.
pub mod Snapshot
-- What no step of a run changes.
pub mod Keeps
-- The state that a machine of the code is in.
pub mod Views
-- What pieces of memory make of an image's memory, on the way to a machine's.
pub mod Pieces
