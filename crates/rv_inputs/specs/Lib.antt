-- What files of a link offer: objects by their numbers, and the names for which they are taken.
pub mod Gathered
-- The names of an object that concern other objects.
pub mod Names
-- Which objects a link takes of its files, and why there are none.
pub mod Taken
-- What the code's own values stand for.
pub mod Views
-- What holds of what files offer, in whatever order they come.
pub mod Whole
-- The offers of each name, as a chain: from the last one to the one before, up to the first.
pub mod Chain
-- What the callers of the search know of their offers.
pub mod Filed
-- The first of the numbers of a set in stretches, one after another.
pub mod Least
-- How much a search has left to take.
pub mod Left
-- The stretches of numbers that have the offers at which a search looks.
pub mod Looking
-- The name of an offer.
pub mod Naming
-- What the code's own offers and names stand for.
pub mod Plain
-- How names stand, by a table of those that are wanted or defined.
pub mod Standing
-- How far a search has come, and what it knows.
pub mod State
