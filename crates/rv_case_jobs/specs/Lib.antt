-- The exit status of cases.
pub mod Status
