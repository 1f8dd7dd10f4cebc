-- The lowest and the highest address, block by block.
pub mod FoldsLemmas
-- The program headers from one on.
pub mod HeadersLemmas
-- Cells of bytes that are cut into lines.
pub mod LinesLemmas
-- The records of lines, in Intel HEX.
pub mod RecordsLemmas
