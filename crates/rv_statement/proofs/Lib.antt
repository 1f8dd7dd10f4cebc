-- Records one by one, and the statements that they say.
pub mod RecordsLemmas
