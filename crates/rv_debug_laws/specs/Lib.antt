-- The code of each source: its rows in the map, and the addresses between which they lie.
pub mod Code
-- A file with debug information as it is written, and what a reader finds in it.
pub mod DebugFile
-- The bytes of a file with debug information: an executable, the table of section headers.
pub mod File
-- The names of a link: what each of its objects names for itself alone, and what the map names.
pub mod Labels
-- What an executable has to be for more to stand behind it, and where it has the bytes of the map's regions.
pub mod Stored
-- The symbols of the names of an executable, with what is known of each.
pub mod Symbols
-- The units of sources, one for each that has code, in the sections of debug information: .debug_line, .debug_info.
pub mod Units
-- Numbers of any size: seven bits a byte, the low ones first; a byte from 128 on has more after it.
pub mod Leb128
-- What the bytes of a line number program mean, for a target whose instructions are single operations.
pub mod LineProgram
-- The line table of rows of code: each row in order, and the end of each sequence.
pub mod LineTable
-- A unit of .debug_line: version 5, in the 32-bit format, for addresses of eight bytes, with one directory.
pub mod LineUnit
-- Sections of .debug_line that GNU as and ld 2.40 made, to be read by these definitions.
pub mod Worked
-- How an object's file names its source: the section `.rv.source`.
pub mod SourceNames
-- What the directives `.type` and `.size` of a source say of names.
pub mod Marks
-- The debug sections of objects, merged: the sections of one name follow each other in the order of the objects.
pub mod Carried
-- Which sections of objects stand behind an executable for debuggers: the debug sections.
pub mod CarriedNames
-- The file of an executable with the debug sections of objects: the merged sections.
pub mod CarriedFile
