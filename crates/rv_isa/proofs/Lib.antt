-- What the bytes of an ABI name say of its register.
pub mod AbiNamesLemmas
-- What follows from the definitions of Kinds, for all who cite them.
pub mod KindsLemmas
-- What follows from the definitions of Operations, for all who cite them.
pub mod OperationsLemmas
