-- The fields of each record of a file: the offset of each in its record, and its width in bytes.
pub mod Fields
-- Why a file is none of this machine: tests in order, the first that is true gives the fault.
pub mod FirstFault
-- The first test that is true, of two lists of tests.
pub mod FirstTrue
-- The numbers of the System V gABI and the RISC-V ELF psABI, under their names there.
pub mod Numbers
-- What is written is read back: each record from its bytes, and a string from a table.
pub mod ReadBack
-- The records of a file, as their fields make them, and the bytes of each.
pub mod Records
-- What a file has of its tables and sections.
pub mod Sections
