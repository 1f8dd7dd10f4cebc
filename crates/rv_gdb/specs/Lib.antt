-- What a session answers of the state where a program stands.
pub mod Shown
