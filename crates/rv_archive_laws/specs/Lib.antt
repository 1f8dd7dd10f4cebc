-- The numbers in a member's head: decimal digits with blanks behind them.
pub mod Decimal
-- What the index of an archive says: for each name the member that defines it.
pub mod Index
-- The members of an archive: their names and their bytes.
pub mod Members
-- The name of a member, by what its head says.
pub mod Names
-- What functions answer that may refuse.
pub mod Outcomes
-- The parts of an archive, one after another from the front of the file to its end: heads.
pub mod Parts
-- What a file is as an archive: its members and its index, or the first fault.
pub mod Reads
-- Which objects a link takes, of those that its files offer, and in which order.
pub mod Taken
-- An archive that GNU ar made of two texts, one of them with a long name, and the index that it made of two objects.
pub mod Worked
