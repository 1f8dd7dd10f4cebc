pub use Rattle.rv_isa.specs.Ranges
-- What selects an instruction among those of its format, read off the table of words.
pub mod Selectors
