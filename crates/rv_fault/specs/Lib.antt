-- Which faults name their cause, and what a fault of the linker is to who builds.
pub mod Fault
-- How messages show a fault of the link.
pub mod LinkFault
-- How messages show a file's fault.
pub mod FileFault
-- The numbers and the names of the faults.
pub mod SourceFault
