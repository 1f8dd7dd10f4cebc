-- Records of symbols, one after another.
pub mod TypedLemmas
