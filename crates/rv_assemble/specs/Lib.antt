-- No statement opens the section of an object's rows, which no source may open.
pub mod KeptNames
-- What the parts of an object are made of: rows of items, relocations of fields with numbers, sections of their parts.
pub mod Making
-- The relocations of a section by its index.
pub mod Lists
-- The symbols of a draft.
pub mod Tabled
-- For which of its statements a source is refused: where each has a line of its own, the line of the fault tells it.
pub mod Ordinals
-- Where the first fault of a source stands.
pub mod Placed
