-- The lines that say how a run of a guest ended.
pub mod Messages
-- The exit status of runs.
pub mod Status
