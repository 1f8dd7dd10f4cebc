-- The text of an instruction: its mnemonic and its operands.
pub mod Instruction
-- The lines of code: the instructions that bytes spell, each with its address.
pub mod Lines
-- The listing of an executable: the statements of its map that have code, and the instructions that stand there.
pub mod Listing
-- Numbers as listings show them.
pub mod Numbers
-- The order of the rows in a listing.
pub mod Order
-- The text of a parcel by its `c.` mnemonic.
pub mod Parcels
-- The raw listing of an executable: its instructions alone, each as a source writes it.
pub mod Raw
