-- How an instruction lies in memory: as a word, or as a parcel where compressed code is on.
pub mod Encoded
-- The instruction at the front of bytes: RISC-V Unprivileged ISA 20191213, section 1.5.
pub mod Front
-- The `c.` mnemonics: the registers and the numbers that each takes, and the form that it is then.
pub mod Mnemonics
-- The 16-bit parcels of RV64C beside RV64IMA: RISC-V Unprivileged ISA 20191213, chapter 16.
pub mod Parcel
