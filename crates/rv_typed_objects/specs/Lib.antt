-- Files of objects whose symbols have the types and the sizes that directives of the source say.
pub mod Typed
