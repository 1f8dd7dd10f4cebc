-- A run with devices beside the run without them.
pub mod BesideLemmas
-- What stood on the console before a run changes nothing of it: the run writes behind.
pub mod BehindLemmas
-- Two platforms: the stack alone, where runs are the usual ones, and the board virt.
pub mod PlatformLemmas
