-- The ground below the stack, and how far grounds go.
pub mod GroundLemmas
-- Rows that stand by their ordinals stay so.
pub mod OrdinalsLemmas
-- What may change of a section of text lies in it, one behind the other.
pub mod ChangesLemmas
-- The sections of the text, with what each object keeps of its sections.
pub mod TextInputsLemmas
-- The place of a symbol is one that a symbol of its object names.
pub mod TextPlacesLemmas
-- The sites of objects make a text.
pub mod TextLineLemmas
-- Objects without some of their sections.
pub mod WithoutLemmas
-- What is left of whole objects is whole.
pub mod WholeLemmas
-- What names mean in what is left of objects: the same definitions, at the same places.
pub mod NamesLeftLemmas
-- The input sections of what is left are those that are not dropped.
pub mod InputsLeftLemmas
-- Where a run begins in what is left of objects.
pub mod EntryLeftLemmas
-- Nothing that is left leads to a dropped section, and without an entry nothing is left.
pub mod DanglingLemmas
-- The definition that is chosen for a name.
pub mod ChosenLemmas
-- Where a run begins: at what `_start` means.
pub mod EntryLemmas
-- What lists hold, and where.
pub mod ListsLemmas
-- The definitions of objects are symbols of theirs, and all that are.
pub mod HeldLemmas
-- What a name means to all files, by the one definition of it.
pub mod ShownLemmas
-- The first name that a function gives, element by element.
pub mod FirstSomeLemmas
-- The linker's names, one after the other.
pub mod LinkerNamesLemmas
-- What follows from the definitions of Inputs, for all who cite them.
pub mod InputsLemmas
-- What follows from the definitions of Moves, for all who cite them.
pub mod MovesLemmas
