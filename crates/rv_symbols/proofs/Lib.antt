-- Where a name is set first.
pub mod FirstsLemmas
-- Where the statements of a source stand.
pub mod StandsLemmas
-- The names that statements define.
pub mod NamingLemmas
-- What uses of symbols mean, use by use.
pub mod UsingLemmas
-- The indices of symbols.
pub mod IndexingLemmas
-- Relocations name their symbols in the order of their statements, but for places of statements.
pub mod OrderedLemmas
-- The symbols that stand for uses: names that are left undefined, and places without names.
pub mod NumberedLemmas
-- The symbols that stand for places without names.
pub mod UnnamedLemmas
-- Where the statements stand that uses without names mean.
pub mod StandingLemmas
-- The symbols that stand for names that their file defines.
pub mod OwnedLemmas
-- The symbols of a name are those of the statement that defines it.
pub mod DefiningLemmas
-- What a symbol of a source means has a place.
pub mod MeantLemmas
-- The symbols that stand for the uses of a source.
pub mod AllLemmas
