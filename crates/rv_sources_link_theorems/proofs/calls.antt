-- Calls, whole and shortened: their code, in objects and in sources.

-- The code of calls, whole and shortened, and that no other statement has a call.
pub mod CalledLemmas
-- The object of a source as the assembler makes it: its calls have 8 bytes.
pub mod UncutLemmas
-- A call in an object of a source without faults, as the assembler leaves it: `auipc` and `jalr`.
pub mod LongCallsLemmas
-- The statements of a section of code where calls are cut: each stands where what is kept before it ends.
pub mod CutsLemmas
-- The walk over a section of code whose calls are cut.
pub mod CutStepsLemmas
-- A section of code whose calls are cut is that of its source, with calls of one instruction.
pub mod CutSectionsLemmas
-- The object of a source whose calls are cut is that of the source, with calls of one instruction.
pub mod CutObjectsLemmas
-- The statements of sources in the linked program, beside those of their objects as the assembler makes them.
pub mod FinalsLemmas
-- What may change of a section of text: in the object the alignments and the permitted calls among its relocations.
pub mod ChangesLemmas
-- The changes of a section of text, statement by statement, in their order.
pub mod ChangesOfLemmas
-- What a family keeps of the calls of sources: each call has a form of its size.
pub mod FormsLemmas
