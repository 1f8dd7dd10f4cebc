-- What sites drop, as a list of numbers: its sums, and what is dropped before an offset.
pub mod DroppingLemmas
-- What a call's size becomes at a distance, and what that says of the family.
pub mod JudgingLemmas
-- The table of a pass: that it stays exact while one site's size is set, and the distances that it gives.
pub mod TablesLemmas
-- The search for an offset among sites one behind the other.
pub mod LaidLemmas
-- Sums of numbers by 64: how they come about, what they tell, and how they change.
pub mod SumsLemmas
-- Steps that come one by one between the passes.
pub mod ChasingLemmas
