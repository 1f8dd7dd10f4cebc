-- Runs over an input at hand: what was taken, with what is left, is the whole input.
pub mod RunsLemmas
