-- What follows from the definitions of Records, for all who cite them.
pub mod RecordsLemmas
-- What follows from the definitions of Sections, for all who cite them.
pub mod SectionsLemmas
