-- Fields keep the low bytes of a number.
pub mod CutLemmas
-- What the types of an object keep, and the widths of its numbers, as one fact of the object.
pub mod KnownLemmas
-- One name more in a table.
pub mod NamingLemmas
-- One step of each loop, and its end.
pub mod StepsLemmas
