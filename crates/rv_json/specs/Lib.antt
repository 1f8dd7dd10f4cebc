-- Values as JSON has them.
pub mod Values
