-- What the tables hold while a pass goes over the sites of a text: the bytes that are dropped before each site.
pub mod Passes
-- Sites for worked numbers.
pub mod Worked
-- The sums of numbers by 64, of these sums again, and once more: what lies before a place is read in a few of each.
pub mod Sums
