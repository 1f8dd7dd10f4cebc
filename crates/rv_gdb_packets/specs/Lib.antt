-- Packets of GDB's remote protocol.
pub mod Packets
-- What the bytes of a stream say.
pub mod Reading
-- What the code's reader is in the definitions.
pub mod Views
-- What packets ask that read, and the answer to what cannot be done.
pub mod Asked
-- Bytes and values as digits.
pub mod Digits
-- Numbers in hexadecimal, as packets have them.
pub mod Numbers
