-- The statements of a section end where its bytes end.
pub mod FilledLemmas
-- Each name that a source's statements say is spelled by bytes that a map can show.
pub mod SpelledNamesLemmas
-- A source without faults has none of labels and directives.
pub mod FaultlessLemmas
-- The sections of a source whose names can be shown have names that can be shown.
pub mod OpenedNamesLemmas
-- Each name that a source's statements say stands in its text as a token of its own.
pub mod WeightsLemmas
-- The symbols of a value are names of its expression, each of another leaf.
pub mod ValueWeightsLemmas
-- What relocations name weighs at most twice what the source's statements say, so it has no more names than that.
pub mod UseWeightsLemmas
-- A name is one label, or one location, or constants.
pub mod SingleLemmas
-- A name of a source is one label, or one location, or constants, and each stands at its statement.
pub mod OneNameLemmas
-- The names that the statements of a source define are not empty.
pub mod DefinedNamesLemmas
-- What code goes by no size: that of all statements but branches, jumps and calls.
pub mod FixedLemmas
-- The least sizes of a source are told by those of its code: what else it holds has the bytes that it has.
pub mod LeastAllLemmas
-- An item of code stands in its statement's section.
pub mod ItemSectionsLemmas
-- The least size of an instruction is one.
pub mod LeastCodeLemmas
-- The ordinals of a source's statements go up by one.
pub mod OrdinalsLemmas
-- What follows from the definitions of Encoded, for all who cite them.
pub mod EncodedLemmas
-- What follows from the definitions of InstructionFaults, for all who cite them.
pub mod InstructionFaultsLemmas
-- What follows from the definitions of IsObjectOf, for all who cite them.
pub mod IsObjectOfLemmas
-- What follows from the definitions of LaidStatements, for all who cite them.
pub mod LaidStatementsLemmas
-- What follows from the definitions of Templates, for all who cite them.
pub mod TemplatesLemmas
-- What follows from the definitions of Valid, for all who cite them.
pub mod ValidLemmas
-- What holds of fixed bytes and of each value holds of all templates of data.
pub mod DataTemplatesLemmas
