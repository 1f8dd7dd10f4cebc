-- What a call says beside its bytes.

use Rattle.std.specs.Prelude.{ℕ, Option, Some, None}
use Rattle.rv_fault.specs.declared.source_fault.SourceFault.TheVariants.{At, OutOfMemory}
use Rattle.rv_fault.specs.SourceFault.{source_fault_number}
use Rattle.rv_fault.specs.FileFault.{file_fault_number}
use Rattle.rv_fault.specs.LinkFault.{link_fault_number}
use Rattle.rv_fault.specs.declared.fault.Fault.{Fault}
use Rattle.rv_fault.specs.declared.fault.Fault.TheVariants.{Source, File, Link, Memory}
use Rattle.rv_library.specs.declared.answers.Answer.{Answer}
use Rattle.rv_library.specs.declared.finding.Numbers.{Numbers}

-- the number, or 0
abbrev pub or_zero : Option ℕ → ℕ
or_zero None = 0
or_zero (Some n) = n

abbrev pub numbers : (kind number file line : ℕ) → Numbers
numbers kind number file line =
    record { kind = kind; number = number; file = file; line = line }

-- the code of a fault, as the letter `E` (69), `F` (70) or `L` (76) and its number, with its place
abbrev pub numbers_of : Fault → Numbers
numbers_of (Source file (At code line)) = numbers 69 (source_fault_number code) file line
numbers_of (Source file OutOfMemory) = numbers 0 0 0 0
numbers_of (File file fault) = numbers 70 (or_zero (file_fault_number fault)) file 0
numbers_of (Link fault) = numbers 76 (or_zero (link_fault_number fault)) 0 0
numbers_of Memory = numbers 0 0 0 0

-- the answer of a call without a fault
abbrev pub answer_of : (length second_length : ℕ) → Answer
answer_of n m =
    record { length = n; second_length = m; kind = 0; number = 0; file = 0; line = 0 }

-- that of a call which is refused, with so many bytes in the fault's line
abbrev pub refusal_of : Fault → ℕ → Answer
refusal_of fault n =
    let told = numbers_of fault in
    record {
      length = n;
      second_length = 0;
      kind = told.kind;
      number = told.number;
      file = told.file;
      line = told.line;
    }
