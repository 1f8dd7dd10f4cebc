-- The names of objects, one symbol after another.
pub mod TablesLemmas
