-- The exit status of what was not done.
pub mod Status
