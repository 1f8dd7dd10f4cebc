-- A look-up in a table among the names of the word's place alone.
pub mod TablesLemmas
