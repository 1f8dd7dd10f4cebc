-- What an archive's index says: the members that it names are there.
mod ArchiveLemmas
-- What files offer, one file after another.
mod GatheringLemmas
-- The names of symbols that pass a test, one symbol after another.
mod NamesLemmas
-- The objects that are taken, one after another.
mod SelectionLemmas
-- Offers stand in order, and are of objects.
mod WholeLemmas
-- The chains of offers: one offer more, and that a chain leads to each offer of its name.
mod ChainLemmas
-- The first item that passes a test: of two lists, of a weaker test, and of items with their places.
mod FindingLemmas
-- The next object of a search, and the offers that it takes out on the way there.
mod NextLemmas
-- Sets of numbers after one was put in or taken out.
mod SetLemmas
-- One name more in the table of names.
mod StandingLemmas
-- What a search knows, when an object is taken, and what it comes to next.
mod StateLemmas
-- The offers at which a search looks stand in stretches of numbers.
mod StretchesLemmas
-- Offers in the order of their files and groups: where a file or a group begins and ends.
mod CutLemmas
-- The least number of a set from one on, up to another.
mod LeastLemmas
