-- The two files of the example: their objects and their program.

-- The objects of the two files.
pub mod TwoObjectsLemmas
-- The program of the two files.
pub mod TwoLinkedLemmas
