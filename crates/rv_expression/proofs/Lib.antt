-- The register of a name is the one that has it.
pub mod RegistersLemmas
-- Nodes and frames as the code holds them.
pub mod ExprsLemmas
-- Reading an expression token by token, as the code holds what is read.
pub mod ReadingStepsLemmas
-- The stack of values as the code holds it.
pub mod EvalsLemmas
-- The first tokens of an expression, one by one.
pub mod FrontsLemmas
