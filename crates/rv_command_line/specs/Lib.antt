-- The options of an assembler that ask for what `rv as` can do.
pub mod AssemblerOptions
