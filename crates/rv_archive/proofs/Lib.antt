-- A number read digit by digit stays below a power of ten.
mod DecimalLemmas
-- The entries of an index, one after another.
mod EntriesLemmas
-- Where a byte stands first, by what a search says.
mod NamesLemmas
-- What comes of items one after another: what is done, with what comes of the rest, is the whole.
mod OutcomesLemmas
-- Parts one after another: one more, and that they stand in order.
mod PartsLemmas
-- The member whose head stands at a place: members stand in order, so a search by halves finds it.
mod PlacedLemmas
-- An archive by its parts: the index, the table of long names, and the members behind them.
mod ReadingLemmas
-- The members of parts, one after another.
mod MembersLemmas
