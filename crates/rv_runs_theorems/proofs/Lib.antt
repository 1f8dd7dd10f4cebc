-- Every instruction that goes on goes to an even address, from an even one.
pub mod EvenLemmas
-- Two memories that differ only where nothing reads: each effect does the same on both.
pub mod AlikeLemmas
-- What an effect keeps of the hart, the step that it comes to keeps as well.
pub mod OnwardLemmas
-- A fetch from the text gives at any time what it gave at first.
pub mod FetchLemmas
-- Numbers of statements: where a distance leads, what its halves make of a register.
pub mod NumbersLemmas
-- The lines of a statement one after another: what they come to.
pub mod WalkLemmas
-- What lines come to, by their shape: one, two of which the first sets a register, a branch over a jump.
pub mod ShapesLemmas
-- The shapes of the table's rows: what the code of a statement comes to where its fields are filled.
pub mod RowsLemmas
-- The statements that spell one instruction.
pub mod SpelledLemmas
-- The rows of an address by two instructions: the upper part of its distance in a register.
pub mod PairsLemmas
-- The row of `li`: its lines set the register to the number.
pub mod LoadImmediateLemmas
-- Each row of the table of code: its lines come to what the statement means, and count what it costs.
pub mod TableLemmas
-- The word of every instruction in range fits 32 bits, and ends in 11 as each four-byte instruction does.
pub mod WideLemmas
-- A parcel that stands for an instruction fits 16 bits, does not end in 11 and is not 0.
pub mod NarrowLemmas
-- Words and parcels that lie in memory are fetched.
pub mod WordsLemmas
-- Each kind of statement: its lines one after another come to its meaning and its cost.
pub mod ObligationsLemmas
-- Whenever memory holds a program, the run of the machine over it agrees with the run of the sources.
pub mod SimulationLemmas
-- Sections one after another in a region: where their statements stand, and which bytes lie there.
pub mod RegionsLemmas
-- Each statement that has a row stands in one of its file's sections, so what holds in every section holds of all.
pub mod HomesLemmas
-- In sources without faults each statement stands in a section that can hold it.
pub mod HeldLemmas
-- The memory of a linked program's image: its rights are those of the map's regions, and its bytes are theirs.
pub mod LaidOutLemmas
-- Sections of code begin at even addresses: each alignment of a source is a power of two, and code takes 2 or more.
pub mod AlignmentsLemmas
-- The memory of a linked program's image realizes its sources: any number of sections, code and data.
pub mod ContentsLemmas
-- On every platform the memory of a linked program realizes its sources, so its run agrees with theirs.
pub mod PlatformLemmas
-- Every list has an order: its elements ascend, and those that tie stand as they stood.
pub mod AscendingLemmas
-- The instructions of a statement stand at the front of its bytes, one after another.
pub mod EncodingsLemmas
-- Entries of statements, one after another.
pub mod EntriesLemmas
-- The listing of a linked program's image is that of its sources.
pub mod ListedLemmas
-- Sources have one listing at a map.
pub mod OneListingLemmas
-- The text of an instruction begins with its word: by its format, since both spell the same names.
pub mod NamedLemmas
-- The bytes of a row in the segments of a linked program: those of the text, where the row lies there.
pub mod SegmentsLemmas
