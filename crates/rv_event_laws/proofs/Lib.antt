-- What an event tells is all that its step changes.
pub mod ChangesLemmas
