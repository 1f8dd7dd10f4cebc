-- The word of every instruction in range fits 32 bits, and spells it alone.
pub mod WordsLemmas
-- An event is read back from its line, part by part: what two equal texts begin with is equal, and so is what follows.
pub mod EventLineLemmas
-- A run of a machine whose registers have 64 bits, over bytes, has the events of such a machine alone.
pub mod RunsLemmas
