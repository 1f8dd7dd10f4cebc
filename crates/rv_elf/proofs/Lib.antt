-- Where a string ends, by what a search of a zero byte says.
pub mod StringsLemmas
