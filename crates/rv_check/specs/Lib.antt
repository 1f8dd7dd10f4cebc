-- What a report begins with.
pub mod Check
