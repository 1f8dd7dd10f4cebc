-- Bytes at addresses.
pub mod Blocks
-- The firmware of an executable.
pub mod FirmwareOf
-- Bytes side by side, with other bytes in the gaps.
pub mod Binary
-- Intel HEX.
pub mod IntelHex
-- S-records.
pub mod SRecords
-- The text that `$readmemh` reads, a byte a word.
pub mod MemoryText
