-- What code asks, by what it spells, and what is seen of its step.
pub mod AskingLemmas
-- What the environment's calls come to, by their tests.
pub mod CallLemmas
-- The events of a run, step by step.
mod EventLemmas
-- How many instructions a run takes, step by step.
pub mod CountLemmas
-- What a fetch comes to, by what may be executed and the low bits of the first byte.
pub mod FetchLemmas
-- Known bytes that are consumed or appended, one after the other.
pub mod KnownLemmas
-- Bytes that a call moved, where they stand in memory.
mod MovedLemmas
-- Numbers in memory, where its bytes are below 256.
pub mod NumberLemmas
-- What a quick step comes to, in the terms of the definitions.
pub mod QuickLemmas
-- What an instruction asks of memory, by the action that it is.
pub mod RequestLemmas
-- A run, step by step.
pub mod RunLemmas
-- A run over streams, step by step.
pub mod StreamLemmas
-- Bytes moved into memory and out of it, part by part.
pub mod TransferLemmas
-- What selects an instruction, and the sum of its fields, show that the word spells it.
pub mod WordLemmas
-- The parcel 0 spells nothing, so that 0 can stand for no bits.
pub mod ZeroLemmas
