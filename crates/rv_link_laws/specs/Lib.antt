-- What the linker takes out of sections of code: the padding of an alignment that is more than is needed.
pub mod Moves
-- The sections of objects as the linker takes them: which region each goes to, and where it starts.
pub mod Inputs
-- What the names of objects mean across files.
pub mod Names
-- The relocations of objects: their values, and the bytes of a section with all of them applied.
pub mod Values
-- Where a link may put a program.
pub mod Ground
-- The linked program of objects, whoever made them.
pub mod IsLinkOf
-- Rows in the order of their ordinals.
pub mod Rising
-- Which calls of objects may be shortened, and what lies between them and their targets.
pub mod CallSites
-- Objects with their calls shortened.
pub mod Shortened
-- Sites within a text of so many bytes.
pub mod Within
-- Objects without the sections that collection dropped: a dropped one has no address, no relocations and no rows.
pub mod Without
-- What collection drops of objects: the sections with an address to which nothing leads from the entry's section.
pub mod Collects
-- The program of objects: sections are collected, calls are shortened, and what is left is linked.
pub mod IsProgramOf
-- What is left of the input sections and the names of objects without the sections that collection dropped.
pub mod Left
-- What a list holds.
pub mod Lists
-- Whether a run can begin.
pub mod Entry
-- Names that objects define twice for all files.
pub mod Exports
-- References without a meaning.
pub mod Undefined
-- Files and a ground that can be linked.
pub mod TextStart
-- Programs with the details of their maps or without: the global names and the rows.
pub mod WithMap
-- Where the sections of objects stand.
pub mod Layout
-- Why fields do not take their values: the first relocation that fails.
pub mod Untaken
-- Why objects cannot be linked, in the order in which that is tested.
pub mod Refusals
