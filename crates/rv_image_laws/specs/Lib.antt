-- The executable that a linked program becomes.
pub mod Executable
-- Why a file is no executable: tests in order, the first that is true gives the fault.
pub mod FirstFault
-- Which memory a program may have: what lies beside the stack, but for the last page.
pub mod Free
-- An image as a plain value: what memory holds before the first step.
pub mod Image
-- The image of a file.
pub mod ImageOf
-- What the linker makes, as a plain value.
pub mod Linked
-- Memory as an image lays it out, with the stack.
pub mod Memory
-- Segments as plain values, and how they lie in memory.
pub mod Segment
