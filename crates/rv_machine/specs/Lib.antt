-- The registers as a list.
pub mod Registers
-- The hart of the code as the hart of the definitions.
pub mod Hart
-- The effect that an action is.
pub mod Action
-- The ends of a run: their names, their addresses, and the ends of the definitions that they are.
pub mod End
-- What was fetched, as the definitions have it.
pub mod Fetch
-- What the code's machine is in the definitions, and what it makes of a step.
pub mod Machine
-- The last state of a run: hart and memory where it ends.
pub mod LastState
-- What is left of a step: the bytes that a call moves.
pub mod Flow
-- The streams of a run: what takes and puts move, and what a run over them comes to.
pub mod Streams
-- What a step over streams moves, and what it comes to.
pub mod StreamSteps
-- What the outcome of a run is in the definitions.
pub mod Outcome
-- How many instructions a run takes, and what a run over streams comes to with their count.
pub mod Counts
-- A load or a store that an instruction asks, and the effect that it is.
pub mod Request
-- What an action has to do with the instruction that a word or a parcel spells.
pub mod Asked
-- The events of the code as those of the definitions.
pub mod Seen
-- What a watched run comes to beside the run of the definitions.
pub mod Watching
